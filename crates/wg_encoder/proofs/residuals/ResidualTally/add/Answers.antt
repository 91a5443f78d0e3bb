use Rattle.std.proofs.Common.{◌∷◌, ◌∙◌, Some, ap}
use Rattle.wg_grammar.specs.declared.fault.Field.TheVariants as field
use Rattle.wg_greedy.specs.Fields.{written, residual_fields}
use Rattle.wg_encoder.specs.Cost.{room_after}
use Rattle.wg_encoder.proofs.Rooms.{one_written}
use Rattle.wg_encoder.proofs.residuals.ResidualTally.add.Goals as goal

pub returns-clause-fields : goal.returns-clause-fields
returns-clause-fields c = λ numbers.
    let t = c.args.self.now in
    let rest = residual_fields t.code t.page (Some c.args.number) numbers in
    one_written c.args.room c.room_after.result (written field.Residual t.code c.stored_gap-gap.result) rest (c.room_after.ensures field.Residual)
    ∙ ap (λ gap. room_after c.args.room (written field.Residual t.code gap ∷ rest)) c.stored_gap-gap.ensures
