use Rattle.std.proofs.Common.{◌∙◌, ap, sym}
use Rattle.wg_encoder.specs.Cost.{room_after}
use Rattle.wg_encoder.specs.Dues.{extra_dues}
use Rattle.wg_encoder.proofs.common.room_after_runs.Goals as goal

pub returns : goal.returns
returns c = c.last.ensures ∙ ap (λ xs. room_after c.loop-number.room (extra_dues c.loop-number.tally xs)) (sym (c.next.ensures.end c.in_default.is)) ∙ c.loop-number.invariant.fields
