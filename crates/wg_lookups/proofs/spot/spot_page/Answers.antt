use Rattle.std.proofs.Common.{◌≡◌, ◌∙◌, refl, sym, subst}
use Rattle.std.specs.FinMap as map
use Rattle.wg_outside.specs.Outside.{Files}
use Rattle.wg_outcomes.specs.Names.{file_of}
use Rattle.wg_readings.specs.Finding.{IsOpenOn}
use Rattle.wg_lookups.specs.Sampling.{IsSampled}
use Rattle.wg_readings.proofs.JobSteps.{does_exit}
use Rattle.wg_lookups.proofs.ShownLemmas.{same_parameters}
use Rattle.wg_lookups.proofs.SpotTicks.{graph_at, listed_by, none_spotted, unlisted_by}
use Rattle.wg_lookups.proofs.SpotJobs.{no_graph, no_list, no_offsets, no_params, spots}
use Rattle.wg_lookups.proofs.spot.spot_page.Goals as goal

pub returns-in_err-params : goal.returns-in_err-params
returns-in_err-params g c = record {
  does = does_exit _ _ _ _ _ _ _ _ g.met.O.Sink.stays c.from_residual.ensures.1 (no_params c.args.base.now c.args.page _ _ _ _ _ refl c.in_err-params.ensures);
  opens = λ t p bytes h. none_spotted _ p bytes c.args.page c.args.steps.now c.from_residual.result _ c.from_residual.ensures.1;
}

pub returns-in_err-graph : goal.returns-in_err-graph
returns-in_err-graph g c =
    record {
      does = does_exit _ _ _ _ _ _ _ _ g.met.O.Sink.stays c.from_residual-in_err-graph.ensures.1
          (no_graph c.args.base.now c.args.page _ _ _ c.in_ok-params.params _ _ c.in_ok-params.ensures _ _ refl c.in_err-graph.ensures.ends);
      opens = λ t p bytes h. none_spotted _ p bytes c.args.page c.args.steps.now c.from_residual-in_err-graph.result _ c.from_residual-in_err-graph.ensures.1;
    }

pub returns-in_err-offsets : goal.returns-in_err-offsets
returns-in_err-offsets g c =
    let f = c.in_ok-graph.ensures in
    record {
      does = does_exit _ _ _ _ _ _ _ _ g.met.O.Sink.stays c.from_residual-in_err-offsets.ensures.1
          (no_offsets c.args.base.now c.args.page _ _ _ c.in_ok-params.params _ _ c.in_ok-params.ensures _ _ f.same f.later c.in_ok-graph.graph.name f.name c.in_ok-graph.graph.held f.found
          _ _ refl c.in_err-offsets.ensures.reads);
      opens = λ t p bytes h. none_spotted _ p bytes c.args.page c.args.steps.now c.from_residual-in_err-offsets.result _ c.from_residual-in_err-offsets.ensures.1;
    }

pub returns-in_err-list : goal.returns-in_err-list
returns-in_err-list g c =
    let f = c.in_ok-graph.ensures in
    let o = c.in_ok-offsets.ensures in
    let graph = c.in_ok-graph.graph in
    let s = c.in_err-list.ensures.spots (file_of c.args.base.now) f.name o.name
    (λ t. subst (λ (x : Files). IsOpenOn (map.get x graph.name) graph.held) (sym (o.reads.same ∙ f.same)) (f.found t))
    (λ t. subst (λ (x : Files). IsSampled (file_of c.args.base.now) x c.in_ok-params.params c.in_ok-offsets.offsets) (sym o.reads.same) (o.sampled t)) in
    record {
      does = does_exit _ _ _ _ _ _ _ _ g.met.O.Sink.stays c.from_residual-in_err-list.ensures.1
          (no_list c.args.base.now c.args.page _ _ _ c.in_ok-params.params _ _ c.in_ok-params.ensures _ _ f.same f.later graph.name f.name graph.held f.found
          _ _ o.reads.same o.reads.later _ _ _ _ _ refl s);
      opens = λ t q bytes h.
          let at = graph_at c.args.base.now _ _ _ graph.name graph.held f.name c.in_ok-params.ensures.same (o.reads.same ∙ f.same) (f.found t) bytes h.graph in
          let stored = subst (λ (x : Files). IsSampled (file_of c.args.base.now) x c.in_ok-params.params c.in_ok-offsets.offsets) (sym o.reads.same) (o.sampled t) in
          let same : c.in_ok-params.params ≡ q = same_parameters _ c.in_ok-params.params q (c.in_ok-params.ensures.given t) h.properties in
          unlisted_by c.args.base.now _ _ c.in_ok-params.params q bytes c.args.page _ _ c.from_residual-in_err-list.result _ c.from_residual-in_err-list.ensures.1 (o.reads.same ∙ f.same ∙ c.in_ok-params.ensures.same) same stored (c.in_err-list.ensures.opens t bytes at.0 at.1 stored.places stored.on);
    }

pub returns : goal.returns
returns g c =
    let f = c.in_ok-graph.ensures in
    let o = c.in_ok-offsets.ensures in
    let graph = c.in_ok-graph.graph in
    let p = c.print_line.ensures in
    let s = c.in_ok-list.ensures.spots (file_of c.args.base.now) f.name o.name
    (λ t. subst (λ (x : Files). IsOpenOn (map.get x graph.name) graph.held) (sym (o.reads.same ∙ f.same)) (f.found t))
    (λ t. subst (λ (x : Files). IsSampled (file_of c.args.base.now) x c.in_ok-params.params c.in_ok-offsets.offsets) (sym o.reads.same) (o.sampled t)) in
    record {
      does = record {
        later = p.later;
        does = spots c.args.base.now c.args.page _ _ _ c.in_ok-params.params _ _ c.in_ok-params.ensures _ _ f.same f.later graph.name f.name graph.held f.found
            _ _ o.reads.same o.reads.later _ _ _ _ c.in_ok-list.list s _ c.as_slice.ensures c.print_line.result p.puts p.only p.failed p.memory;
      };
      opens = λ t q bytes h.
          let at = graph_at c.args.base.now _ _ _ graph.name graph.held f.name c.in_ok-params.ensures.same (o.reads.same ∙ f.same) (f.found t) bytes h.graph in
          let stored = subst (λ (x : Files). IsSampled (file_of c.args.base.now) x c.in_ok-params.params c.in_ok-offsets.offsets) (sym o.reads.same) (o.sampled t) in
          let same : c.in_ok-params.params ≡ q = same_parameters _ c.in_ok-params.params q (c.in_ok-params.ensures.given t) h.properties in
          listed_by c.args.base.now _ _ c.in_ok-params.params q bytes c.args.page _ _ c.in_ok-list.list c.print_line.result (o.reads.same ∙ f.same ∙ c.in_ok-params.ensures.same) same stored (c.in_ok-list.ensures.opens t bytes at.0 at.1 stored.places stored.on);
    }
