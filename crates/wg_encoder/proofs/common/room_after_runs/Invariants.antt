use Rattle.std.proofs.Common.{◌≡◌, length}
use Rattle.wg_greedy.specs.Fields.{extra_fields}
use Rattle.wg_encoder.specs.Cost.{room_after}
use Rattle.wg_encoder.specs.Dues.{extra_dues, MayCome}
use Rattle.wg_encoder.proofs.common.room_after_runs.Given as goal

abbrev pub invariant-loop-number : goal.invariant-loop-number
invariant-loop-number l = record {
  come : MayCome l.tally l.extras;
  fields : room_after l.room (extra_dues l.tally l.extras) ≡ room_after l.fn.room (extra_fields l.params l.page l.fn.extras);
}

abbrev pub decreases-loop-number : goal.decreases-loop-number
decreases-loop-number l = length l.extras
