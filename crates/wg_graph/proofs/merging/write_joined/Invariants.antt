use Rattle.std.proofs.Common.{length, take, ◌+◌, ◌-◌, ◌≤◌, ◌≡◌, ℕ, List}
use Rattle.wg_graph.specs.Joined.{Joined}
use Rattle.wg_graph.proofs.Unions.{Nears}
use Rattle.wg_graph.proofs.merging.write_joined.Given as goal

abbrev pub invariant-below : goal.invariant-below
invariant-below l = record {
  within : l.taken ≤ length l.members;
  place : l.end + l.from ≡ l.at + l.taken;
  length : length l.to ≡ length l.fn.to;
  nears : (numbers : List ℕ) (m : ℕ) → m ≤ l.number → Joined l.members numbers l.from (take l.at l.fn.to) m → Nears l.members numbers l.taken (take l.end l.to) l.number;
}

abbrev pub decreases-below : goal.decreases-below
decreases-below l = length l.members - l.taken
