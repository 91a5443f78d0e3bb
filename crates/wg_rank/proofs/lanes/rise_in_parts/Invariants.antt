use Rattle.std.proofs.Common.{ℕ, ◌≡◌, ◌+◌, ◌*◌, ◌^◌}
use Rattle.wg_rank.specs.Sum.{sum_below}
use Rattle.wg_rank.specs.Lanes.{AreSummed}
use Rattle.wg_rank.proofs.lanes.rise_in_parts.Given as goal

abbrev pub invariant-loop-part : goal.invariant-loop-part
invariant-loop-part l = record {
  below : (n : ℕ) (low high : ℕ → ℕ) → AreSummed n low high l.sums
      → sum_below l.from low + l.below ≡ sum_below (l.from + l.part * 2 ^ 24) low;
  above : (n : ℕ) (low high : ℕ → ℕ) → AreSummed n low high l.sums
      → sum_below l.from high + l.above ≡ sum_below (l.from + l.part * 2 ^ 24) high;
}
