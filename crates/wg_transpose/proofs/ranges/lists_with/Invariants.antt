use Rattle.std.proofs.Common.{◌≡◌, ℕ, ◌<◌, ◌≤◌, take}
use Rattle.std.specs.Prelude.{sum}
use Rattle.wg_transpose.proofs.ranges.lists_with.Given as goal

abbrev pub invariant-loop-page : goal.invariant-loop-page
invariant-loop-page l = record {
  total : l.arcs ≡ sum (take l.page l.counts);
  least : (k : ℕ) → 0 < k → k ≤ l.page → sum (take k l.counts) < l.room;
}
