use Rattle.std.proofs.Common.{◌∙◌, ap, sym}
use Rattle.wg_greedy.specs.Fields.{extras, copy_fields, extra_fields}
use Rattle.wg_encoder.specs.Cost.{room_after}
use Rattle.wg_encoder.proofs.Rooms.{after_both}
use Rattle.wg_encoder.proofs.common.room_after_common.Goals as goal

pub returns : goal.returns
returns c =
    let list = c.args.list.now in
    let referenced = c.args.referenced.now in
    let others = extra_fields c.args.params.now c.args.page (extras list referenced) in
    c.room_after_extras.ensures referenced c.requires.common ∙ ap (λ n. room_after n others) (c.room_after_blocks-room.ensures list referenced c.requires.common.theirs)
    ∙ sym (after_both c.args.room (copy_fields c.args.params.now c.args.reference referenced list) others)
