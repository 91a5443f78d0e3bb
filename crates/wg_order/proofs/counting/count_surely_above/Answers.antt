use Rattle.std.proofs.Common.{arith, ℕ, nat_lt, count_by, ap, ◌∙◌}
use Rattle.wg_order.proofs.Fronts.{first_above, first_falls}
use Rattle.wg_order.proofs.counting.count_surely_above.Goals as goal

pub count_above-requires : goal.count_above-requires
count_above-requires c = first_falls c.args.low.now c.args.high.now c.args.first.now c.requires.first

pub returns : goal.returns
returns c =
    let bound = c.bound_of-bound.result in
    c.count_above.ensures
    ∙ first_above c.args.low.now c.args.high.now c.args.first.now c.args.i bound c.requires.first c.requires.place (omega (arith, c.bound_of.ensures, c.if-bound_of-bound.false))
    ∙ ap (λ (x : ℕ). count_by (λ l. nat_lt x l) c.args.low.now) c.bound_of-bound.ensures
