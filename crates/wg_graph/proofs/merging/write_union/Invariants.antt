use Rattle.std.proofs.Common.{length, take, ◌+◌, ◌-◌, ◌≤◌, ◌≡◌}
use Rattle.wg_graph.proofs.Merges.{Merges}
use Rattle.wg_graph.proofs.merging.write_union.Given as goal

abbrev pub invariant-merge : goal.invariant-merge
invariant-merge l = record {
  members : l.taken ≤ length l.members;
  numbers : l.done ≤ length l.numbers;
  place : l.end ≤ l.taken + l.done;
  length : length l.to ≡ length l.fn.to;
  merges : Merges l.members l.numbers l.taken l.done (take l.end l.to);
}

abbrev pub decreases-merge : goal.decreases-merge
decreases-merge l = length l.members + length l.numbers - (l.taken + l.done)
