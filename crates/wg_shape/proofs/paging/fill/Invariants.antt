use Rattle.std.proofs.Common.{◌≡◌, ◌++◌, length}
use Rattle.wg_shape.proofs.paging.fill.Given as goal

abbrev pub invariant-numbers : goal.invariant-numbers
invariant-numbers g l = record {
  parts : g.A.Coming.coming l.initial.numbers ≡ l.list ++ g.A.Coming.coming l.numbers;
}

abbrev pub decreases-numbers : goal.decreases-numbers
decreases-numbers g l = length (g.A.Coming.coming l.numbers)
