use Rattle.std.proofs.Common.{◌≡◌}
use Rattle.wg_rank.specs.{Sum.sum_below, Intervals.by_page}
use Rattle.wg_readings.proofs.weights.all_zero.Given as goal

-- the weights so far add up to 0
abbrev pub invariant-loop-weight : goal.invariant-loop-weight
invariant-loop-weight l = sum_below l.weight-index (by_page l.weights) ≡ 0
