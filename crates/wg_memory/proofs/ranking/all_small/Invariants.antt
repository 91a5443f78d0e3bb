use Rattle.std.proofs.Common.{◌<◌, ◌≤◌, ℕ, slice_index_or}
use Rattle.wg_rank.specs.declared.limits.TheConstants.{MOST_WEIGHT}
use Rattle.wg_memory.proofs.ranking.all_small.Given as goal

-- the weights so far are within the limit
abbrev pub invariant-loop-weight : goal.invariant-loop-weight
invariant-loop-weight l = (k : ℕ) (d : ℕ) → k < l.weight-index → slice_index_or l.weights k d ≤ MOST_WEIGHT
