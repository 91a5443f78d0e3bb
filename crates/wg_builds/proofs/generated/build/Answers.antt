use Rattle.std.proofs.Common.{◌≡◌, ◌∙◌, subst}
use Rattle.std.specs.Result.{IfOk}
use Rattle.wg_graph.specs.Digraph.{Digraph}
use Rattle.wg_params.specs.Parameters.{Parameters, params_of}
use Rattle.wg_outcomes.specs.Bulk.{bulk_params}
use Rattle.wg_writing.specs.Writing.{archive_of}
use Rattle.wg_builds.proofs.BulkLemmas.{sound_of}
use Rattle.wg_builds.proofs.generated.build.Goals as goal

pub returns-clause-is : goal.returns-clause-is
returns-clause-is c =
    let d : Digraph = c.in_ok-graph.graph in
    let params = c.params_of-params.ensures ∙ (λ i. params_of (c.default_layout.ensures.value i) (c.nodes.ensures.value i) (c.arcs.ensures.value i)) in
    subst (λ (x : Digraph). IfOk c.encode_graph.result (λ a. a ≡ archive_of (bulk_params x) x)) c.in_ok-graph.ensures
    (subst (λ (p : Parameters). IfOk c.encode_graph.result (λ a. a ≡ archive_of p d)) params c.encode_graph.ensures.encoded)

pub returns-clause-sound : goal.returns-clause-sound
returns-clause-sound c = sound_of c.encode_graph.result _ _ _ _ _ c.in_ok-graph.ensures c.nodes.ensures.proper c.nodes.ensures.value c.arcs.ensures.value c.default_layout.ensures.value
    c.nodes.ensures.within c.arcs.ensures.within c.default_layout.ensures.within
