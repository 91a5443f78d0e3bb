use Rattle.std.proofs.Common.{◌≡◌, ◌<◌, ◌^◌, length}
use Rattle.wg_params.specs.Codes.{IsCode}
use Rattle.wg_graph.specs.Ascending.{Below}
use Rattle.wg_encoder.specs.Cost.{room_after}
use Rattle.wg_encoder.specs.Dues.{residual_dues}
use Rattle.wg_encoder.proofs.common.room_after_rest.Given as goal

abbrev pub invariant-loop-number : goal.invariant-loop-number
invariant-loop-number l = record {
  page : l.tally.page < 2 ^ 62;
  code : IsCode l.tally.code;
  low : Below (2 ^ 62) l.extras;
  fields : room_after l.room (residual_dues l.tally l.extras) ≡ room_after l.fn.room (residual_dues l.fn.tally l.fn.extras);
}

abbrev pub decreases-loop-number : goal.decreases-loop-number
decreases-loop-number l = length l.extras
