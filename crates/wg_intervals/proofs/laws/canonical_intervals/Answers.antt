use Rattle.wg_intervals.proofs.Divided.{are_together, are_once, parts_ascend, are_long, residuals_short}
use Rattle.wg_intervals.proofs.laws.canonical_intervals.Goals as goal

pub returns : goal.returns
returns c = record {
  together = are_together;
  once = are_once;
  ascend = parts_ascend;
  long = are_long;
  short = residuals_short;
}
