use Rattle.std.proofs.Common.{◌+◌, ◌^◌, ◌≤◌}
use Rattle.wg_intervals.proofs.Splits.{Splitting}
use Rattle.wg_intervals.proofs.parts.Split.refill.Given as goal

abbrev pub invariant-loop-number : goal.invariant-loop-number
invariant-loop-number l = record {
  short : l.run.length ≤ l.number-index;
  low : l.run.left + l.run.length ≤ 2 ^ 64;
  splitting : Splitting l.interval l.extras l.number-index l.run l.self.intervals l.self.residuals;
}
