use Rattle.std.proofs.Common.{◌≡◌}
use Rattle.wg_rank.specs.Sum.{sum_below}
use Rattle.wg_rank.specs.Intervals.{by_page}
use Rattle.wg_rank.proofs.teleport.total_weight.Given as goal

abbrev pub invariant-loop-weight : goal.invariant-loop-weight
invariant-loop-weight l = l.sum ≡ sum_below l.weight-index (by_page l.weights)
