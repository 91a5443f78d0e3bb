use Rattle.std.proofs.Common.{◌<◌, ◌≤◌, ℕ, slice_index_or}
use Rattle.wg_rank.specs.declared.limits.TheConstants.{UNITS}
use Rattle.wg_memory.proofs.verifying.all_within.Given as goal

-- the bounds so far are at most 1
abbrev pub invariant-loop-bound : goal.invariant-loop-bound
invariant-loop-bound l = (k : ℕ) (d : ℕ) → k < l.bound-index → slice_index_or l.low k d ≤ UNITS
