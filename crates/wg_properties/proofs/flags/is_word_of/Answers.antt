use Rattle.std.proofs.Common.{◌≡◌, ℕ, List, [], ◌∷◌, ◌++◌, refl, sym, ◌∙◌, eq-eqb}
use Rattle.std.specs.Prelude.{None, Some}
use Rattle.std.specs.Str.{bytes_eq}
use Rattle.std.proofs.lemmas.Bool.{false_from_ne_true}
use Rattle.std.proofs.lemmas.Bool.Decides.{Decides-eqb}
use Rattle.std.proofs.lemmas.Slice.Eq.{bytes_eq-Decides, strip_prefix_is}
use Rattle.wg_properties.specs.Words.{end_of, word_of}
use Rattle.wg_properties.proofs.flags.is_word_of.Goals as goal

same_front : (front a b : List ℕ) → bytes_eq (front ++ a) (front ++ b) ≡ bytes_eq a b
same_front [] a b = refl
same_front (x ∷ front) a b = rw (eq-eqb x x refl) (same_front front a b)

pub returns-in-Some : goal.returns-in-Some
returns-in-Some c =
    let whole = strip_prefix_is Decides-eqb c.args.word.now c.front_of.result.now (Some c.in-Some.end) c.in-Some.ensures.cases in
    c.eq.ensures ∙ sym (same_front c.front_of.result.now c.in-Some.end.now c.end_of.result.now)
    ∙ (λ i. bytes_eq (sym whole i) (c.front_of.ensures i ++ c.end_of.ensures i))

pub returns-in-None : goal.returns-in-None
returns-in-None c =
    let none = strip_prefix_is Decides-eqb c.args.word.now c.front_of.result.now None c.in-None.ensures.cases in
    sym (false_from_ne_true _ (λ h. none (end_of c.args.flag.1) ((bytes_eq-Decides c.args.word.now (word_of c.args.flag)).0 h ∙ (λ i. sym c.front_of.ensures i ++ end_of c.args.flag.1))))
