use Rattle.std.proofs.Common.{◌∷◌, [], ap, ◌∙◌, arith}
use Rattle.wg_grammar.specs.declared.fault.Field.TheVariants as field
use Rattle.wg_greedy.specs.Fields.{written}
use Rattle.wg_encoder.specs.Cost.{room_after}
use Rattle.wg_encoder.proofs.Whole.{with_reference}
use Rattle.wg_encoder.proofs.record.room_after_reference.Goals as goal

pub returns-then-window-gt0 : goal.returns-then-window-gt0
returns-then-window-gt0 c =
    c.room_after.ensures field.Reference ∙ ap (λ code. room_after c.args.room (written field.Reference code c.args.reference ∷ [])) c.references.ensures.value
    ∙ ap (room_after c.args.room) (with_reference c.args.params.now c.args.reference (omega (arith, c.if-window-gt0.true, c.window.ensures.value)))
