use Rattle.std.proofs.Common.{ℕ, ◌≡◌, ◌<◌, ◌∙◌, ◌↔◌, IsTrue, nat_lt, length, get_or, ap, arith, rules}
use Rattle.std.proofs.lemmas.List.{get_or_read}
use Rattle.wg_order.proofs.ranking.Ranking.surely_above.Goals as goal

-- two numbers compared, each as it is read
compared : (a b x y : ℕ) → a ≡ x → b ≡ y → IsTrue (nat_lt b a) ↔ y < x
compared a b x y e f = rw (e, f) (search rules)

pub returns : goal.returns
returns c =
    let s = c.self.inside in
    let u : c.args.u < length s.low.items = omega (arith, ap (λ s. length s.low) c.self.view_is) in
    let v : c.args.v < length s.high.items = omega (arith, c.self.invariant.high_pages, ap (λ s. length s.low) c.self.view_is) in
    compared _ _ _ _
    (get_or_read s.low.items c.args.u c.index.result.now u c.index.ensures 0 ∙ ap (λ s. get_or s.low c.args.u 0) c.self.view_is)
    (get_or_read s.high.items c.args.v c.index-2.result.now v c.index-2.ensures 0 ∙ ap (λ s. get_or s.high c.args.v 0) c.self.view_is)
