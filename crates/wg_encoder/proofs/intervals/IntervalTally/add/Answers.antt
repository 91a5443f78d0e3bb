use Rattle.std.proofs.Common.{◌+◌, ◌-◌, ◌∷◌, ◌∙◌, Some, ap}
use Rattle.wg_params.specs.declared.code.Code.TheVariants.{Gamma}
use Rattle.wg_grammar.specs.declared.fault.Field.TheVariants as field
use Rattle.wg_greedy.specs.Fields.{written, interval_fields}
use Rattle.wg_encoder.specs.Cost.{room_after}
use Rattle.wg_encoder.proofs.Rooms.{one_written}
use Rattle.wg_encoder.proofs.intervals.IntervalTally.add.Goals as goal

pub returns-clause-fields : goal.returns-clause-fields
returns-clause-fields c = λ runs.
    let t = c.args.self.now in
    let rest = interval_fields t.page t.least (Some (c.args.run.left + c.args.run.length)) runs in
    let size = written field.Length Gamma (c.args.run.length - t.least) in
    one_written c.room_after.result c.room_after-2.result size rest (c.room_after-2.ensures field.Length)
    ∙ one_written c.args.room c.room_after.result (written field.Left Gamma c.stored_gap-gap.result) (size ∷ rest) (c.room_after.ensures field.Left)
    ∙ ap (λ gap. room_after c.args.room (written field.Left Gamma gap ∷ size ∷ rest)) c.stored_gap-gap.ensures
