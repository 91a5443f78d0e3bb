use Rattle.std.proofs.Common.{◌++◌, ◌∷◌, [], ◌∙◌, ap, sym}
use Rattle.std.specs.Prelude.{None}
use Rattle.wg_params.specs.declared.code.Code.TheVariants.{Gamma}
use Rattle.wg_grammar.specs.declared.fault.Field.TheVariants as field
use Rattle.wg_greedy.specs.Fields.{written, has_some, count_fields, residual_fields}
use Rattle.wg_encoder.specs.Cost.{room_after}
use Rattle.wg_encoder.proofs.Rooms.{nothing_more, one_written}
use Rattle.wg_encoder.proofs.Marking.{without_rows}
use Rattle.wg_encoder.proofs.common.room_after_residuals.Goals as goal

pub returns-in-Some : goal.returns-in-Some
returns-in-Some c =
    let p = c.args.params.now in
    let xs = c.in-Some.first ∷ c.next.new.self in
    let count = written field.IntervalCount Gamma 0 in
    c.room_after_rest.ensures ∙ c.add-room.ensures.fields c.next.new.self
    ∙ one_written c.args.room c.room_after.result count (residual_fields c.residuals.result c.args.page None xs) (c.room_after.ensures field.IntervalCount)
    ∙ ap (λ code. room_after c.args.room (count ∷ residual_fields code c.args.page None xs)) c.residuals.ensures.value
    ∙ ap (λ ys. room_after c.args.room ((count_fields (has_some ys) 4 0 ++ []) ++ residual_fields p.residuals c.args.page None ys)) (sym c.in-Some.ensures.split)
    ∙ ap (room_after c.args.room) (sym (without_rows p c.args.page c.args.extras c.requires.least c.requires.rows))

pub returns-in-None : goal.returns-in-None
returns-in-None c =
    let p = c.args.params.now in
    sym (nothing_more c.args.room) ∙ ap (λ ys. room_after c.args.room ((count_fields (has_some ys) 4 0 ++ []) ++ residual_fields p.residuals c.args.page None ys)) (sym (c.next.ensures.end c.in-None.is))
    ∙ ap (room_after c.args.room) (sym (without_rows p c.args.page c.args.extras c.requires.least c.requires.rows))
