use Rattle.std.proofs.Common.{◌∙◌, ap, sym}
use Rattle.wg_encoder.specs.Cost.{room_after}
use Rattle.wg_encoder.specs.Dues.{residual_dues}
use Rattle.wg_encoder.proofs.Rooms.{nothing_more}
use Rattle.wg_encoder.proofs.common.room_after_rest.Goals as goal

pub returns : goal.returns
returns c = sym (nothing_more c.loop-number.room) ∙ ap (λ xs. room_after c.loop-number.room (residual_dues c.loop-number.tally xs)) (sym (c.next.ensures.end c.in_default.is)) ∙ c.loop-number.invariant.fields
