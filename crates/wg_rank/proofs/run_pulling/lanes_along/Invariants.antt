use Rattle.std.proofs.Common.{ℕ, ◌≡◌, take}
use Rattle.wg_rank.specs.Sum.{sum_below}
use Rattle.wg_rank.specs.Lanes.{in_lanes, AreSummed}
use Rattle.wg_rank.specs.Pulling.{along}
use Rattle.wg_rank.proofs.run_pulling.lanes_along.Given as goal

abbrev pub invariant-loop-run : goal.invariant-loop-run
invariant-loop-run l = (n : ℕ) (low high : ℕ → ℕ) → AreSummed n low high l.sums
    → l.flow ≡ in_lanes (λ s. along (λ u. sum_below u s) (take l.run-index l.runs)) low high
