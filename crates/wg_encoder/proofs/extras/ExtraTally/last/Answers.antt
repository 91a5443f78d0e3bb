use Rattle.std.proofs.Common.{[], true, ◌∙◌, ap, sym, arith}
use Rattle.wg_grammar.specs.declared.fault.Field.TheVariants as field
use Rattle.wg_encoder.specs.Cost.{room_after}
use Rattle.wg_encoder.proofs.Rooms.{nothing_more}
use Rattle.wg_encoder.proofs.Dues.{last_none, last_run, count_last, no_count_last}
use Rattle.wg_encoder.proofs.extras.ExtraTally.last.Goals as goal

pub returns-then-self-eq0 : goal.returns-then-self-eq0
returns-then-self-eq0 c = sym (nothing_more c.args.room) ∙ ap (room_after c.args.room) (last_none c.args.self c.if-self-eq0.true)

pub add_run-room-requires-clause-few : goal.add_run-room-requires-clause-few
add_run-room-requires-clause-few c = omega (arith, c.requires.few, c.requires.end, c.if-self-eq0.false)

pub returns-then-tally-gt0 : goal.returns-then-tally-gt0
returns-then-tally-gt0 c =
    c.room_after.ensures field.IntervalCount ∙ ap (room_after c.add_run-room.result) (count_last c.add_run-room.new.self c.if-tally-gt0.true)
    ∙ c.add_run-room.ensures.fields true [] ∙ ap (room_after c.args.room) (last_run c.args.self (omega (arith, c.if-self-eq0.false)))

pub returns : goal.returns
returns c =
    sym (nothing_more c.add_run-room.result) ∙ ap (room_after c.add_run-room.result) (no_count_last c.add_run-room.new.self c.if-tally-gt0.false)
    ∙ c.add_run-room.ensures.fields true [] ∙ ap (room_after c.args.room) (last_run c.args.self (omega (arith, c.if-self-eq0.false)))
