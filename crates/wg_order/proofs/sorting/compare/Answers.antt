use Rattle.std.specs.Ordering.{MatchOrdering, ordering_then, nat_cmp}
use Rattle.std.proofs.Common.{Ordering, Less, Equal, Greater, ◌≡◌, ◌∙◌, ap, ap₂, rules}
use Rattle.wg_rank.specs.Intervals.{by_page}
use Rattle.wg_order.proofs.sorting.compare.Goals as goal

-- one comparison, and another if it is equal
then_is : (Q : Type 0) (a b r : Ordering) → MatchOrdering a (r ≡ Less) Q (r ≡ Greater) → (Q → r ≡ b) → r ≡ ordering_then a b
then_is Q Less b r m f = m
then_is Q Equal b r m f = f m
then_is Q Greater b r m f = m

pub returns : goal.returns
returns c =
    let high = nat_cmp (by_page c.args.high.now c.args.v) (by_page c.args.high.now c.args.u) in
    let number = nat_cmp c.args.u c.args.v in
    then_is _ c.then_with.result number c.then_with-2.result c.then_with-2.ensures (λ q. search rules)
    ∙ ap (λ o. ordering_then o number)
    (then_is _ c.cmp.result high c.then_with.result c.then_with.ensures (λ q. search rules)
    ∙ ap (λ o. ordering_then o high) (c.cmp.ensures ∙ ap₂ nat_cmp c.bound_of.ensures c.bound_of-2.ensures))
