use Rattle.std.proofs.Common.{◌∙◌, None, refl, ap}
use Rattle.wg_rank.proofs.Weighing.{ones}
use Rattle.wg_words.specs.declared.defaults.TheConstants.{DEFAULT_DAMPING}
use Rattle.wg_rank.specs.Rounds.{bounds_after}
use Rattle.wg_outcomes.specs.declared.outcome.TheConstants.{BULK_ROUNDS}
use Rattle.wg_builds.proofs.BulkLemmas.{bounds_of_graph, no_graph}
use Rattle.wg_outcomes.proofs.{PerformsLemmas.faultless, WritingLemmas.if_that_err}
use Rattle.wg_builds.proofs.generated.rounded.Goals as goal

pub room_for-requires-clause-weights : goal.room_for-requires-clause-weights
room_for-requires-clause-weights c = ones _

pub returns-in_err-graph-clause-only : goal.returns-in_err-graph-clause-only
returns-in_err-graph-clause-only c = λ g is same.
    if_that_err _ _ _ c.from_residual.ensures.1
    (no_graph g c.args.base.now _ is _ _ _ c.args.params.now same c.in_err-graph.field-0.0 (faultless _ _ (λ n. (refl, refl, refl, refl))) c.in_err-graph.ensures)

pub returns-clause-value : goal.returns-clause-value
returns-clause-value c = λ g is same.
    let f = c.in_ok-first.ensures in
    c.last_bounds.ensures None f.weights ∙ ap (λ d. bounds_after c.new-lists.result.graph None d BULK_ROUNDS) f.damping
    ∙ ap (λ h. bounds_after h None DEFAULT_DAMPING BULK_ROUNDS) c.new-lists.ensures.graph
    ∙ bounds_of_graph g c.args.base.now _ is _ _ _ c.args.params.now same c.in_ok-graph.graph DEFAULT_DAMPING BULK_ROUNDS c.in_ok-graph.ensures
