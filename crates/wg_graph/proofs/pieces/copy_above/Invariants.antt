use Rattle.std.proofs.Common.{◌-◌, ◌≡◌, ◌≤◌, length}
use Rattle.wg_graph.proofs.Moved.{Lifted}
use Rattle.wg_graph.proofs.pieces.copy_above.Given as goal

abbrev pub invariant-above : goal.invariant-above
invariant-above l = record {
  within : l.done ≤ l.from;
  length : length l.numbers ≡ length l.fn.numbers;
  lifted : Lifted l.bound l.from l.to l.done l.fn.numbers l.numbers;
}

abbrev pub decreases-above : goal.decreases-above
decreases-above l = l.from - l.done
