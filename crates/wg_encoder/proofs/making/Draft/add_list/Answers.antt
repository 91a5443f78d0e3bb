use Rattle.std.proofs.Common.{◌∙◌}
use Rattle.wg_encoder.proofs.Low.{on_ok, extras_ascend, extras_low, list_joined}
use Rattle.wg_encoder.proofs.making.Draft.add_list.Goals as goal

pub add_extras-requires-clause-others : goal.add_extras-requires-clause-others
add_extras-requires-clause-others c = extras_ascend c.args.list.now c.args.referenced.now c.as_slice.result.now (c.as_slice.ensures ∙ c.in_ok-fill_extras.ensures) c.requires.list

pub add_extras-requires-clause-low : goal.add_extras-requires-clause-low
add_extras-requires-clause-low c = extras_low _ c.args.list.now c.args.referenced.now c.as_slice.result.now (c.as_slice.ensures ∙ c.in_ok-fill_extras.ensures) c.requires.low

pub returns : goal.returns
returns c =
    on_ok c.add_extras.result
    (list_joined c.args.params.now c.args.page c.args.reference c.args.referenced.now c.args.list.now c.as_slice.result.now c.args.self.now c.add_reference.new.fields c.add_copies.new.fields c.add_extras.new.fields c.requires.some
    (c.as_slice.ensures ∙ c.in_ok-fill_extras.ensures) (rw c.self.view_is at c.in_ok-add_reference.ensures) c.in_ok-add_copies.ensures)
    c.add_extras.ensures
