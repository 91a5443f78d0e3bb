use Rattle.std.proofs.Common.{◌-◌, ◌≡◌, ◌+◌, ◌≤◌, length}
use Rattle.wg_graph.proofs.Moved.{Passed}
use Rattle.wg_graph.proofs.pieces.copy_below.Given as goal

abbrev pub invariant-below : goal.invariant-below
invariant-below l = record {
  within : l.from + l.done ≤ length l.numbers;
  length : length l.numbers ≡ length l.fn.numbers;
  passed : Passed l.bound l.to l.from l.done l.fn.numbers l.numbers;
}

abbrev pub decreases-below : goal.decreases-below
decreases-below l = length l.numbers - l.done
