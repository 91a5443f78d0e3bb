use Rattle.std.proofs.Common.{◌≡◌, ◌∙◌, ◌++◌, ◌∷◌, [], length, ap, sym}
use Rattle.std.proofs.lemmas.Bool.{eqb-true}
use Rattle.std.proofs.lemmas.Result.{on_ok_weaker}
use Rattle.wg_grammar.specs.declared.fault.Field.TheVariants as field
use Rattle.wg_greedy.specs.Fields.{written, list_fields}
use Rattle.wg_encoder.proofs.Whole.{empty_record, whole_record}
use Rattle.wg_encoder.proofs.making.Draft.fill.Goals as goal

pub returns-then-is_empty : goal.returns-then-is_empty
returns-then-is_empty c =
    c.in_ok-add.ensures ∙ ap (λ fs. fs ++ written field.Outdegree c.outdegrees.result (length c.args.list.now) ∷ []) c.clear.ensures
    ∙ ap (λ code. written field.Outdegree code (length c.args.list.now) ∷ []) c.outdegrees.ensures.value
    ∙ empty_record c.args.params.now c.args.page c.args.reference c.args.referenced.now c.args.list.now (eqb-true (length c.args.list.now) 0 (sym c.if-is_empty.ensures))

pub returns : goal.returns
returns c =
    on_ok_weaker c.add_list.result (λ (added : c.add_list.new.self ≡ c.add.new.self ++ list_fields c.args.params.now c.args.page c.args.reference c.args.referenced.now c.args.list.now). added
    ∙ ap (λ fs. fs ++ list_fields c.args.params.now c.args.page c.args.reference c.args.referenced.now c.args.list.now)
    (c.in_ok-add.ensures ∙ ap (λ fs. fs ++ written field.Outdegree c.outdegrees.result (length c.args.list.now) ∷ []) c.clear.ensures
    ∙ ap (λ code. written field.Outdegree code (length c.args.list.now) ∷ []) c.outdegrees.ensures.value)
    ∙ whole_record c.args.params.now c.args.page c.args.reference c.args.referenced.now c.args.list.now) c.add_list.ensures
