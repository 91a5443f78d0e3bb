use Rattle.std.proofs.Common.{◌+◌, true, ◌∙◌, ap, sym, arith}
use Rattle.wg_blocks.specs.Canonical.{canonical_blocks, mask_runs, without_last}
use Rattle.wg_encoder.specs.Cost.{room_after}
use Rattle.wg_encoder.specs.Dues.{dues_of_blocks}
use Rattle.wg_encoder.proofs.Rooms.{none_left}
use Rattle.wg_encoder.proofs.common.room_after_blocks.Goals as goal

pub loop-block-init : goal.loop-block-init
unfolding canonical_blocks
loop-block-init c = record {
  few = omega (arith, c.new-tally.ensures.within.count, c.of-blocks.ensures.few);
  counts = c.new-tally.ensures.within.counts;
  code = c.new-tally.ensures.within.code;
  fields = λ list referenced same. ap (λ bs. room_after c.args.room (dues_of_blocks c.new-tally.result bs)) (c.of-blocks.ensures.blocks ∙ ap (λ ms. without_last (mask_runs true ms)) same)
      ∙ ap (room_after c.args.room) (c.new-tally.ensures.blocks referenced list);
}

pub returns-then-room-eq0 : goal.returns-then-room-eq0
returns-then-room-eq0 c = λ list referenced same.
    let dues = dues_of_blocks c.add_block-room.new.self c.next.new.self in
    sym (none_left dues) ∙ ap (λ n. room_after n dues) (sym c.if-room-eq0.true) ∙ c.add_block-room.ensures.fields c.next.new.self
    ∙ ap (λ bs. room_after c.loop-block.room (dues_of_blocks c.loop-block.tally bs)) (sym c.in-Some.ensures.split) ∙ c.loop-block.invariant.fields list referenced same

pub last-requires : goal.last-requires
last-requires c = (c.loop-block.tally.count + c.loop-block.tally.run.length, record { count = omega arith; run = omega arith; counts = c.loop-block.invariant.counts; code = c.loop-block.invariant.code })

pub returns : goal.returns
returns c = λ list referenced same.
    c.last.ensures ∙ ap (λ bs. room_after c.loop-block.room (dues_of_blocks c.loop-block.tally bs)) (sym (c.next.ensures.end c.in_default.is)) ∙ c.loop-block.invariant.fields list referenced same
