use Rattle.std.proofs.Common.{◌≡◌, ◌*◌, List, ◌++◌, drop}
use Rattle.std.specs.Prelude.{None}
use Rattle.wg_intervals.specs.declared.run.Run.{Run}
use Rattle.wg_intervals.specs.Canonical.{ends_and_lengths}
use Rattle.wg_greedy.specs.Fields.{interval_fields}
use Rattle.wg_encoder.specs.InMemory.{AreLowRuns}
use Rattle.wg_encoder.proofs.Adding.{Reaching}
use Rattle.wg_encoder.proofs.parts.add_intervals.Given as goal

abbrev pub invariant-loop-index : goal.invariant-loop-index
invariant-loop-index l = record {
  low : AreLowRuns (drop (2 * l.index) l.ends);
  reaching : (runs : List Run) → l.ends ≡ ends_and_lengths runs → Reaching l.page l.least (l.fn.fields ++ interval_fields l.page l.least None runs) (drop (2 * l.index) l.ends) l.past l.fields;
}
