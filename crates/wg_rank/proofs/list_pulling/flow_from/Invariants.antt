use Rattle.std.specs.List.{sum_by}
use Rattle.std.proofs.Common.{ℕ, ◌≡◌, ◌+◌, ◌<◌, All, length}
use Rattle.wg_rank.specs.Shares.{AreShares}
use Rattle.wg_rank.proofs.list_pulling.flow_from.Given as goal

abbrev pub invariant-parts : goal.invariant-parts
invariant-parts l = record {
  within : All (λ u. u < length l.shares) l.left;
  low : (n : ℕ) (low high : ℕ → ℕ) → AreShares n low high l.shares → l.below + sum_by low l.left ≡ sum_by low l.sources;
  high : (n : ℕ) (low high : ℕ → ℕ) → AreShares n low high l.shares → l.above + sum_by high l.left ≡ sum_by high l.sources;
}

abbrev pub decreases-parts : goal.decreases-parts
decreases-parts l = length l.left
