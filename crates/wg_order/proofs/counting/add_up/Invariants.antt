use Rattle.std.proofs.Common.{◌≡◌, length}
use Rattle.wg_order.proofs.Tallies.{AreAdded}
use Rattle.wg_order.proofs.counting.add_up.Given as goal

abbrev pub invariant-loop-i : goal.invariant-loop-i
invariant-loop-i l = record {
  added : AreAdded l.fn.numbers l.numbers l.total l.i;
  size : length l.numbers ≡ length l.fn.numbers;
}
