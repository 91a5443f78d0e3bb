use Rattle.std.proofs.Common.{ℕ, ◌≡◌, take}
use Rattle.wg_rank.specs.Sum.{sum_below}
use Rattle.wg_rank.specs.Lanes.{AreSummed}
use Rattle.wg_rank.specs.Pulling.{along}
use Rattle.wg_rank.proofs.run_pulling.parts_along.Given as goal

abbrev pub invariant-loop-run : goal.invariant-loop-run
invariant-loop-run l = record {
  below : (n : ℕ) (low high : ℕ → ℕ) → AreSummed n low high l.sums → l.below ≡ along (λ u. sum_below u low) (take l.run-index l.runs);
  above : (n : ℕ) (low high : ℕ → ℕ) → AreSummed n low high l.sums → l.above ≡ along (λ u. sum_below u high) (take l.run-index l.runs);
}
