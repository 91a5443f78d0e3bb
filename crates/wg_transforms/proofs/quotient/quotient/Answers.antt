use Rattle.std.proofs.Common.{◌≡◌, ◌∙◌, ◌≤◌, ℕ, Bool, List, [], ◌∷◌, length, Option, Ok, Err, refl, sym, ap, subst}
use Rattle.wg_outside.specs.{Outside.Files, Outside.Counts, declared.limits.TheConstants.MOST_BYTES}
use Rattle.wg_params.specs.{Parameters.Parameters, declared.limits.TheConstants.MOST_ARCS}
use Rattle.wg_graph.specs.{Ascending.Below, Digraph.Digraph}
use Rattle.wg_shape.specs.Quotient.{quotient_of}
use Rattle.wg_words.specs.{declared.jobs.Job.Job, Jobs.writing, declared.jobs.Origin.TheVariants.Quotient}
use Rattle.wg_params.specs.declared.layout.Layout.{Layout}
use Rattle.wg_outcomes.specs.{Judged.Judged, Judged.map_then, Names.map_named, Readings.Readings, Commands.builds}
use Rattle.wg_readings.specs.Loading.{IsBadMap, LoadsGraph, LoadsMap, LoadsParams}
use Rattle.wg_outcomes.specs.{declared.ending.Ending.Ending, declared.status.Input.Input}
use Rattle.wg_outcomes.specs.declared.status.Input.TheVariants.{Properties, Graph, Map}
use Rattle.wg_outcomes.specs.Performs.{Outside, Performs}
use Rattle.wg_readings.proofs.GraphJobs as graphs
use Rattle.wg_readings.proofs.JobSteps.{ComesTo, ends_without, writes, does_exit}
use Rattle.wg_readings.proofs.JobSteps.{comes_on_named, ends_named, map_refused}
use Rattle.wg_readings.proofs.LoadLemmas.{graph_loaded, graph_unloaded}
use Rattle.wg_transforms.proofs.quotient.quotient.Goals as goal

-- what is left to do with the classes, and with the graph
abbrev behind_map : ℕ → Layout → Digraph → List ℕ → Readings → (Input → Option (List ℕ)) → Judged
behind_map classes layout g list r h = builds layout (quotient_of g list classes)

abbrev behind_graph : ℕ → Layout → Parameters → Digraph → Readings → (Input → Option (List ℕ)) → Judged
behind_graph classes layout p g r h = map_then g.nodes classes (h Map) (λ list. behind_map classes layout g list r h)

of_graph : (input map output : List ℕ) (classes : ℕ) (layout : Layout) → graphs.IsOfGraph (writing output layout (Quotient input map classes)) input (behind_graph classes layout)
of_graph input map output classes layout = record { text_named = refl; graph_named = refl; judges = λ r h. refl }

module _ (input map output : List ℕ) (classes : ℕ) (layout : Layout) (td to : Bool) (before : Outside) (p : Parameters) (files : Files) (counts : List ℕ → Counts) (l : LoadsParams input td before.files files before.counts counts (Ok p))
    (files1 : Files) (counts1 : List ℕ → Counts) (graph : Digraph) (g : LoadsGraph input p td files files1 counts counts1 (Ok graph)) where
  abbrev job : Job
  job = writing output layout (Quotient input map classes)

  come : ComesTo job p td before files1 counts1 (Graph ∷ Properties ∷ []) (behind_graph classes layout p graph)
  come = graphs.has_graph job input (behind_graph classes layout) (of_graph input map output classes layout) td to before p files counts l files1 counts1 graph g

  no_map : (after : Outside) (e : Ending) → after.taken ≡ before.taken → LoadsMap map graph.nodes classes td files1 after.files counts1 after.counts (Err e)
      → Performs job td to before after e.status e.promised
  no_map after e silent m =
      ends_named job input td to before p files1 counts1 (Graph ∷ Properties ∷ []) Map (map_named map) refl (IsBadMap graph.nodes) (map_then graph.nodes classes) (behind_map classes layout graph) come
      (λ h holds. holds) (λ n. refl) (map_refused job p graph.nodes g.nodes refl) refl after e silent m.reads

  come_to_map : (files2 : Files) (counts2 : List ℕ → Counts) (list : List ℕ) → LoadsMap map graph.nodes classes td files1 files2 counts1 counts2 (Ok list)
      → ComesTo job p td before files2 counts2 (Map ∷ Graph ∷ Properties ∷ []) (behind_map classes layout graph list)
  come_to_map files2 counts2 list m =
      comes_on_named job input td to before p files1 counts1 (Graph ∷ Properties ∷ []) Map (map_named map) refl (IsBadMap graph.nodes) (map_then graph.nodes classes) (behind_map classes layout graph) come
      files2 counts2 list m.reads

pub returns-in_err-params : goal.returns-in_err-params
returns-in_err-params g c =
    does_exit _ _ _ _ _ _ _ _ g.met.O.Sink.stays c.from_residual.ensures.1
    (graphs.no_params _ _ _ (of_graph c.args.input.now c.args.map.now c.args.output.now c.args.classes c.args.layout.now) _ _ _ _ _ refl c.in_err-params.ensures)

pub returns-in_err-bytes : goal.returns-in_err-bytes
returns-in_err-bytes g c =
    let p = c.in_ok-params.params in
    does_exit _ _ _ _ _ _ _ _ g.met.O.Sink.stays c.from_residual-in_err-bytes.ensures.1
    (graphs.no_graph _ _ _ (of_graph c.args.input.now c.args.map.now c.args.output.now c.args.classes c.args.layout.now) _ _ _ p _ _ c.in_ok-params.ensures
    _ _ refl (graph_unloaded c.args.input.now p _ _ _ _ _ _ c.in_err-bytes.ensures))

pub returns-in_err-lists : goal.returns-in_err-lists
returns-in_err-lists g c =
    let p = c.in_ok-params.params in
    let e = c.in_err-lists.ensures in
    does_exit _ _ _ _ _ _ _ _ g.met.O.Sink.stays c.from_residual-in_err-lists.ensures.1
    (graphs.no_graph _ _ _ (of_graph c.args.input.now c.args.map.now c.args.output.now c.args.classes c.args.layout.now) _ _ _ p _ _ c.in_ok-params.ensures
    _ _ refl (graph_loaded c.args.input.now p _ _ _ _ _ c.in_ok-bytes.bytes _ c.as_slice.ensures c.in_ok-bytes.ensures (Err c.in_err-lists.field-0.0) e.refused e.only tt))

pub returns-in_err-classes_of : goal.returns-in_err-classes_of
returns-in_err-classes_of g c =
    let p = c.in_ok-params.params in
    let graph = c.in_ok-lists.lists.graph in
    does_exit _ _ _ _ _ _ _ _ g.met.O.Sink.stays c.from_residual-in_err-classes_of.ensures.1
    (no_map c.args.input.now c.args.map.now c.args.output.now c.args.classes c.args.layout.now _ _ _ p _ _ c.in_ok-params.ensures
    _ _ graph (graph_loaded c.args.input.now p _ _ _ _ _ c.in_ok-bytes.bytes _ c.as_slice.ensures c.in_ok-bytes.ensures (Ok graph) c.in_ok-lists.ensures.goes tt c.in_ok-lists.ensures.nodes)
    _ _ refl (rw c.nodes.ensures.count at c.in_err-classes_of.ensures))

pub returns-in_err-made : goal.returns-in_err-made
returns-in_err-made g c =
    let p = c.in_ok-params.params in
    let graph = c.in_ok-lists.lists.graph in
    does_exit _ _ _ _ _ _ _ _ g.met.O.Sink.stays c.from_residual-in_err-made.ensures.1
    (ends_without (writing c.args.output.now c.args.layout.now (Quotient c.args.input.now c.args.map.now c.args.classes)) c.args.input.now _ _ _ p _ _ _ _
    (come_to_map c.args.input.now c.args.map.now c.args.output.now c.args.classes c.args.layout.now _ g.O.Sink.told _ p _ _ c.in_ok-params.ensures
    _ _ graph (graph_loaded c.args.input.now p _ _ _ _ _ c.in_ok-bytes.bytes _ c.as_slice.ensures c.in_ok-bytes.ensures (Ok graph) c.in_ok-lists.ensures.goes tt c.in_ok-lists.ensures.nodes)
    _ _ c.in_ok-classes_of.classes_of (rw c.nodes.ensures.count at c.in_ok-classes_of.ensures))
    _ _ _ refl c.in_err-made.ensures.only)

pub returns : goal.returns
returns g c =
    let p = c.in_ok-params.params in
    let graph = c.in_ok-lists.lists.graph in
    let list = c.in_ok-classes_of.classes_of in
    let made = rw c.as_slice-2.ensures at c.in_ok-made.ensures.made in
    record {
      does = writes (writing c.args.output.now c.args.layout.now (Quotient c.args.input.now c.args.map.now c.args.classes)) c.args.input.now _ _ _ p _ _ _ _
          (come_to_map c.args.input.now c.args.map.now c.args.output.now c.args.classes c.args.layout.now _ g.O.Sink.told _ p _ _ c.in_ok-params.ensures
          _ _ graph (graph_loaded c.args.input.now p _ _ _ _ _ c.in_ok-bytes.bytes _ c.as_slice.ensures c.in_ok-bytes.ensures (Ok graph) c.in_ok-lists.ensures.goes tt c.in_ok-lists.ensures.nodes)
          _ _ list (rw c.nodes.ensures.count at c.in_ok-classes_of.ensures))
          c.args.layout.now (quotient_of graph list c.args.classes) c.args.output.now (λ o. refl) refl refl _ c.build_archive.result (c.build_archive.ensures.builds c.args.layout.now (quotient_of graph list c.args.classes) made.0 made.1);
      later = c.build_archive.ensures.later;
    }

pub encode_quotient-requires : goal.encode_quotient-requires
encode_quotient-requires g c =
    let list = c.in_ok-classes_of.ensures in
    let lists = c.in_ok-lists.ensures in
    record {
      layout = c.requires.layout;
      few_pages = lists.few;
      few_arcs = subst (λ (k : ℕ). k ≤ MOST_ARCS) (sym lists.arcs) c.arcs-arcs.ensures.within;
      each = ap (λ (l : List ℕ). length l) c.as_slice-2.ensures ∙ list.each ∙ c.nodes.ensures.count;
      below = subst (Below c.args.classes) (sym c.as_slice-2.ensures) list.below;
      few = c.requires.few;
    }

pub lists_of_records-requires : goal.lists_of_records-requires
lists_of_records-requires g c = subst (λ (l : List ℕ). length l ≤ MOST_BYTES) (sym c.as_slice.ensures) c.in_ok-bytes.ensures.short
