use Rattle.std.proofs.Common.{Ok, Err, List, ℕ, refl}
use Rattle.wg_params.specs.declared.layout.Layout.{Layout}
use Rattle.wg_words.specs.{Jobs.writing, declared.jobs.Origin.TheVariants.Transpose}
use Rattle.wg_transpose.specs.Transposed.{transposed}
use Rattle.wg_outcomes.specs.Commands.{builds}
use Rattle.wg_readings.proofs.GraphJobs.{IsOfGraph, has_graph, no_graph, no_params}
use Rattle.wg_readings.proofs.JobSteps.{ends_without, does_exit, writes}
use Rattle.wg_readings.proofs.LoadLemmas.{graph_loaded, graph_unloaded}
use Rattle.wg_transforms.proofs.transpose.transpose.Goals as goal

of_graph : (input output : List ℕ) (layout : Layout) → IsOfGraph (writing output layout (Transpose input)) input (λ p g r h. builds layout (transposed g))
of_graph input output layout = record { text_named = refl; graph_named = refl; judges = λ r h. refl }

pub returns-in_err-params : goal.returns-in_err-params
returns-in_err-params g c =
    does_exit _ _ _ _ _ _ _ _ g.met.O.Sink.stays c.from_residual.ensures.1
    (no_params _ _ _ (of_graph c.args.input.now c.args.output.now c.args.layout.now) _ _ _ _ _ refl c.in_err-params.ensures)

pub returns-in_err-bytes : goal.returns-in_err-bytes
returns-in_err-bytes g c =
    let p = c.in_ok-params.params in
    does_exit _ _ _ _ _ _ _ _ g.met.O.Sink.stays c.from_residual-in_err-bytes.ensures.1
    (no_graph _ _ _ (of_graph c.args.input.now c.args.output.now c.args.layout.now) _ _ _ p _ _ c.in_ok-params.ensures _ _ refl (graph_unloaded c.args.input.now p _ _ _ _ _ _ c.in_err-bytes.ensures))

pub returns-in_err-ranges : goal.returns-in_err-ranges
returns-in_err-ranges g c =
    let p = c.in_ok-params.params in
    let e = c.in_err-ranges.ensures.ends in
    does_exit _ _ _ _ _ _ _ _ g.met.O.Sink.stays c.from_residual-in_err-ranges.ensures.1
    (no_graph _ _ _ (of_graph c.args.input.now c.args.output.now c.args.layout.now) _ _ _ p _ _ c.in_ok-params.ensures _ _ refl
    (graph_loaded c.args.input.now p _ _ _ _ _ c.in_ok-bytes.bytes _ c.as_slice.ensures c.in_ok-bytes.ensures (Err c.in_err-ranges.field-0.0) e.refused e.only tt))

pub returns-in_err-made : goal.returns-in_err-made
returns-in_err-made g c =
    let layout = c.args.layout.now in
    let p = c.in_ok-params.params in
    let graph = c.in_ok-ranges.ranges.graph in
    does_exit _ _ _ _ _ _ _ _ g.met.O.Sink.stays c.from_residual-in_err-made.ensures.1
    (ends_without (writing c.args.output.now layout (Transpose c.args.input.now)) c.args.input.now _ _ _ p _ _ _ _
    (has_graph _ _ _ (of_graph c.args.input.now c.args.output.now c.args.layout.now) _ g.O.Sink.told _ p _ _ c.in_ok-params.ensures _ _ graph
    (graph_loaded c.args.input.now p _ _ _ _ _ c.in_ok-bytes.bytes _ c.as_slice.ensures c.in_ok-bytes.ensures (Ok graph) c.in_ok-ranges.ensures.goes.goes tt c.in_ok-ranges.ensures.goes.nodes))
    _ _ _ refl c.in_err-made.ensures.only)

pub returns : goal.returns
returns g c =
    let layout = c.args.layout.now in
    let p = c.in_ok-params.params in
    let graph = c.in_ok-ranges.ranges.graph in
    let made = c.in_ok-made.ensures.made in
    record {
      does = writes (writing c.args.output.now layout (Transpose c.args.input.now)) c.args.input.now _ _ _ p _ _ _ _
          (has_graph _ _ _ (of_graph c.args.input.now c.args.output.now c.args.layout.now) _ g.O.Sink.told _ p _ _ c.in_ok-params.ensures _ _ graph
          (graph_loaded c.args.input.now p _ _ _ _ _ c.in_ok-bytes.bytes _ c.as_slice.ensures c.in_ok-bytes.ensures (Ok graph) c.in_ok-ranges.ensures.goes.goes tt c.in_ok-ranges.ensures.goes.nodes))
          layout (transposed graph) c.args.output.now (λ r. refl) refl refl _ c.build_archive.result (c.build_archive.ensures.builds layout (transposed graph) made.0 made.1);
      later = c.build_archive.ensures.later;
    }
