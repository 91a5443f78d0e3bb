use Rattle.std.proofs.Common.{◌≡◌, ℕ, true, false, nat_eq, nat_lt, length, List, not, ap, sym, ◌∙◌, arith}
use Rattle.std.proofs.lemmas.Bool.{eqb-false, lt-ltb}
use Rattle.wg_grammar.specs.Refusal.{passes}
use Rattle.wg_encoder.specs.Encoding.{Encoded}
use Rattle.wg_encoder.proofs.list_encoder.ListEncoder.may_refer.Goals as goal

is_some : (l m : List ℕ) → l ≡ m → false ≡ nat_eq (length l) 0 → nat_lt 0 (length m) ≡ true
is_some l m same some = lt-ltb 0 (length m) (let n = eqb-false (length l) 0 (sym some) in let e = ap length same in omega (arith, n, e))

pub returns-then-not-is_empty : goal.returns-then-not-is_empty
returns-then-not-is_empty c =
    let some = is_some _ _ c.referenced_list.ensures.value c.if-not-is_empty.ensures in
    let params = c.deref.ensures ∙ ap (λ (e : Encoded). e.params) c.self.view_is in
    rw (some, c.passes.ensures, c.chain.ensures.value, params) (ap (λ d. not (passes c.args.self.now.params.chain d)) c.depth.ensures.value)
