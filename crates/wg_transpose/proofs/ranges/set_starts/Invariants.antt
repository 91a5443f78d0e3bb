use Rattle.std.proofs.Common.{◌≡◌, ℕ, ◌<◌, ◌≤◌, get_or, take}
use Rattle.std.specs.Prelude.{sum}
use Rattle.wg_transpose.proofs.ranges.set_starts.Given as goal

abbrev pub invariant-loop-count : goal.invariant-loop-count
invariant-loop-count l = record {
  total : l.start ≡ sum (take l.count-index l.fn.counts);
  done : (v : ℕ) → v < l.count-index → get_or l.count-items v 0 ≡ sum (take v l.fn.counts);
  left : (v : ℕ) → l.count-index ≤ v → get_or l.count-items v 0 ≡ get_or l.fn.counts v 0;
}
