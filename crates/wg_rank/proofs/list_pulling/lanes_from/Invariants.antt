use Rattle.std.specs.List.{sum_by}
use Rattle.std.proofs.Common.{ℕ, ◌≡◌, take}
use Rattle.wg_rank.specs.Lanes.{in_lanes}
use Rattle.wg_rank.specs.Shares.{AreShares}
use Rattle.wg_rank.proofs.list_pulling.lanes_from.Given as goal

abbrev pub invariant-loop-source : goal.invariant-loop-source
invariant-loop-source l = (n : ℕ) (low high : ℕ → ℕ) → AreShares n low high l.shares
    → l.flow ≡ in_lanes (λ s. sum_by s (take l.source-index l.sources)) low high
