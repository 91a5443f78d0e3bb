use Rattle.std.proofs.Common.{◌≡◌, ◌∙◌, rules, refl, sym, ap, subst, drop, ℕ, Bool, List, IfOk, Result, Ok}
use Rattle.wg_params.specs.declared.code.Code.{Code}
use Rattle.wg_codes.specs.Reading.{Reads}
use Rattle.wg_codes.specs.Words.{word, top}
use Rattle.wg_codes.specs.declared.outcome.Read.{Read}
use Rattle.wg_codes.specs.declared.outcome.Read.TheVariants.{NoWord}
use Rattle.wg_grammar.specs.Standing.{IsReadAt}
use Rattle.wg_decoder.proofs.value.usual_value.Goals as goal
use Rattle.wg_decoder.proofs.value.usual_value.Goals.{then-eq, else-eq}

-- what was read of a word, if it is this
read_where : {E : Type 0} (code : Code) (bits : List Bool) (at end : ℕ) (word' found : Result Read E) (r q : Read) → word' ≡ found → word' ≡ Ok r → r ≡ q
    → IfOk found (λ x. IsReadAt code bits at x end) → Reads (word code) (top code) (drop at bits) q
read_where {E = E} code bits at end word' found r q a b c h =
    (subst (λ (x : Result Read E). IfOk x (λ y. IsReadAt code bits at y end)) (sym a ∙ b ∙ ap Ok c) h).0

pub returns-in-NoWord-clause-fault : goal.returns-in-NoWord-clause-fault
returns-in-NoWord-clause-fault g c = λ bits r. record {
  read = NoWord;
  found = elim c.if-eq.branch [
    | then-eq w ↦ subst (λ (k : Code). Reads (word k) (top k) (drop (g.S.Source.offset c.args.source.now) bits) NoWord) (search rules)
        (read_where c.args.usual bits (g.S.Source.offset c.args.source.now) (g.S.Source.offset w.read-word.new.self) c.if-eq.word w.read-word.result c.in-Ok.read NoWord w.word-is c.in-Ok.is c.in-NoWord.is (w.read-word.ensures.found bits r))
    | else-eq w ↦ read_where c.args.code bits (g.S.Source.offset c.args.source.now) (g.S.Source.offset w.read-word-else-eq.new.self) c.if-eq.word w.read-word-else-eq.result c.in-Ok.read NoWord w.word-is c.in-Ok.is c.in-NoWord.is (w.read-word-else-eq.ensures.found bits r)
  ];
  why = λ p d s. refl;
  field = refl;
  offset = c.at-at.ensures.value;
  of_page = refl;
}
