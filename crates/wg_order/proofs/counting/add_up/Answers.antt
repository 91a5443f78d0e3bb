use Rattle.std.proofs.Common.{arith, ◌≡◌, ◌+◌, ◌-◌, ◌∙◌, subst, refl}
use Rattle.std.proofs.Math.ListN.{length-set}
use Rattle.wg_order.proofs.Tallies.{AreAdded, added_next, within_sum}
use Rattle.wg_order.proofs.counting.add_up.Goals as goal

pub overflow_add-total : goal.overflow_add-total
overflow_add-total c =
    let l = c.loop-i in
    let a = l.invariant.added in
    let next : l.i - 1 + 1 ≡ l.i = omega arith in
    let w = within_sum c.args.numbers.now (l.i - 1) (omega arith) in
    let v = rw next at w in
    omega (arith, v, a.total_is, a.left (l.i - 1) (omega arith), c.requires)

pub loop-i-preserved : goal.loop-i-preserved
loop-i-preserved c =
    let l = c.loop-i in
    let next : l.i ≡ l.i - 1 + 1 = omega arith in
    record {
      added = added_next _ l.numbers l.total (l.i - 1) _ (omega (arith, l.invariant.size)) l.invariant.size (subst (AreAdded _ l.numbers l.total) next l.invariant.added) refl;
      size = length-set l.numbers (l.i - 1) _ ∙ l.invariant.size;
    }
