use Rattle.std.proofs.Common.{◌∙◌, List, ℕ, refl, sym}
use Rattle.wg_params.specs.{declared.layout.Layout.Layout, Parameters.params_of}
use Rattle.wg_words.specs.{Jobs.writing, declared.jobs.Origin.TheVariants.Recode}
use Rattle.wg_outcomes.specs.Commands.{builds}
use Rattle.wg_readings.proofs.GraphJobs.{IsOfGraph, has_graph, no_graph, no_params}
use Rattle.wg_readings.proofs.JobSteps.{does_exit, writes}
use Rattle.wg_transforms.proofs.recode.recode.Goals as goal

of_graph : (input output : List ℕ) (layout : Layout) → IsOfGraph (writing output layout (Recode input)) input (λ p g r h. builds layout g)
of_graph input output layout = record { text_named = refl; graph_named = refl; judges = λ r h. refl }

pub returns-in_err-params : goal.returns-in_err-params
returns-in_err-params g c =
    does_exit _ _ _ _ _ _ _ _ g.met.O.Sink.stays c.from_residual.ensures.1
    (no_params _ _ _ (of_graph c.args.input.now c.args.output.now c.args.layout.now) _ _ _ _ _ refl c.in_err-params.ensures)

pub returns-in_err-archive : goal.returns-in_err-archive
returns-in_err-archive g c =
    does_exit _ _ _ _ _ _ _ _ g.met.O.Sink.stays c.from_residual-in_err-archive.ensures.1
    (no_graph _ _ _ (of_graph c.args.input.now c.args.output.now c.args.layout.now) _ _ _ c.in_ok-params.params _ _ c.in_ok-params.ensures _ _ refl c.in_err-archive.ensures.ends)

pub returns : goal.returns
returns g c =
    let layout = c.args.layout.now in
    let p = c.in_ok-params.params in
    let read = c.in_ok-archive.ensures.makes in
    record {
      does = writes (writing c.args.output.now layout (Recode c.args.input.now)) c.args.input.now _ _ _ p _ _ _ _
          (has_graph _ _ _ (of_graph c.args.input.now c.args.output.now c.args.layout.now) _ g.O.Sink.told _ p _ _ c.in_ok-params.ensures _ _ read.graph read.loads)
          layout read.graph c.args.output.now (λ r. refl) refl refl _ c.build_archive.result
          (c.build_archive.ensures.builds layout read.graph
          (c.params_of-made.ensures ∙ (λ i. params_of layout ((c.nodes.ensures.value ∙ sym read.loads.nodes) i) ((c.arcs.ensures.value ∙ sym read.arcs) i)))
          read.is);
      later = c.build_archive.ensures.later;
    }
