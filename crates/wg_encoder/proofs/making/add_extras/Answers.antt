use Rattle.std.proofs.Common.{◌≡◌, ◌∙◌, ◌/◌, ◌++◌, not, length, ap, subst, OnOk}
use Rattle.std.specs.Prelude.{None}
use Rattle.wg_intervals.specs.Canonical.{intervals_of}
use Rattle.wg_greedy.specs.Fields.{residual_fields}
use Rattle.wg_encoder.proofs.Low.{intervals_low, residuals_low, some_there, half, extras_whole, on_ok}
use Rattle.wg_encoder.proofs.making.add_extras.Goals as goal

pub add_intervals-requires-clause-low : goal.add_intervals-requires-clause-low
add_intervals-requires-clause-low c =
    intervals_low c.interval-least.result c.args.others.now c.as_slice-ends.result.now c.requires.others c.requires.low (c.as_slice-ends.ensures ∙ c.in_ok-fill.ensures.intervals)

pub add_residuals-requires-clause-low : goal.add_residuals-requires-clause-low
add_residuals-requires-clause-low c =
    residuals_low c.interval-least.result c.args.others.now c.as_slice.result.now c.requires.others c.requires.low (c.as_slice.ensures ∙ c.in_ok-fill.ensures.residuals)

pub returns : goal.returns
returns c =
    on_ok c.add_residuals.result
    (extras_whole c.args.params.now c.args.page c.args.others.now (not c.is_empty.result) c.interval-least.result (length c.as_slice-ends.result.now / 2) c.args.fields.now c.add_count.new.fields c.add_intervals.new.fields c.add_residuals.new.fields
    (some_there c.args.others.now (not c.is_empty.result) (ap not c.is_empty.ensures)) c.interval-least.ensures.value
    (half c.as_slice-ends.result.now _ (c.as_slice-ends.ensures ∙ c.in_ok-fill.ensures.intervals)) c.in_ok-add_count.ensures
    (c.in_ok-add_intervals.ensures (intervals_of c.interval-least.result c.args.others.now) (c.as_slice-ends.ensures ∙ c.in_ok-fill.ensures.intervals)))
    (subst (λ ys. OnOk c.add_residuals.result (c.add_residuals.new.fields ≡ c.add_intervals.new.fields ++ residual_fields c.args.params.now.residuals c.args.page None ys)) (c.as_slice.ensures ∙ c.in_ok-fill.ensures.residuals)
    (subst (λ code. OnOk c.add_residuals.result (c.add_residuals.new.fields ≡ c.add_intervals.new.fields ++ residual_fields code c.args.page None c.as_slice.result.now)) c.residuals.ensures.value c.add_residuals.ensures))
