-- A job that reads the graph of an archive whole, and then weights, if a file of them is named.
use Rattle.std.proofs.Common.{◌≡◌, ℕ, Bool, List, [], ◌∷◌, Option, Ok, Err, refl, true, false, Some, None, is_some, ap, arith}
use Rattle.wg_outside.specs.Outside.{Files, Counts}
use Rattle.wg_params.specs.Parameters.{Parameters}
use Rattle.wg_graph.specs.Digraph.{Digraph}
use Rattle.wg_words.specs.declared.jobs.Job.{Job}
use Rattle.wg_outcomes.specs.{Commands.judged, Judged.Judged, Judged.weights_then, Names.file_of, Names.weights_named}
use Rattle.wg_readings.specs.Loading.{LoadsGraph, LoadsParams, digraph_then, params_then, IsBadWeights, LoadsWeights}
use Rattle.wg_outcomes.specs.{JobFiles.input_name, JobFiles.has_input, Performs.Outside, Performs.Performs}
use Rattle.wg_outcomes.specs.{Readings.Readings, declared.ending.Ending.Ending, declared.status.Input.Input}
use Rattle.wg_outcomes.specs.declared.status.Input.TheVariants.{Properties, Graph, Weights}
use Rattle.wg_readings.proofs.JobSteps.{ComesTo, ends_reading, loaded, unloaded}
use Rattle.std.specs.Bool.{IsTrue}
use Rattle.wg_readings.proofs.JobSteps.{comes_on_named, ends_named, weights_refused}

-- a job that reads the parameters and the graph of an archive, and then goes on so
pub record IsOfGraph (job : Job) (base : List ℕ) (next : Parameters → Digraph → Readings → (Input → Option (List ℕ)) → Judged) : Type 0 where
  pub text_named : input_name job Properties ≡ file_of base Properties
  pub graph_named : input_name job Graph ≡ file_of base Graph
  pub judges : (r : Readings) (h : Input → Option (List ℕ)) → judged r job h ≡ params_then (h Properties) (λ p. digraph_then r p (h Graph) (λ g. next p g r h))

module _ (job : Job) (base : List ℕ) (next : Parameters → Digraph → Readings → (Input → Option (List ℕ)) → Judged) (is : IsOfGraph job base next) (td to : Bool) (before : Outside) where
  -- the parameters were not read
  pub no_params : (after : Outside) (e : Ending) → after.taken ≡ before.taken → LoadsParams base td before.files after.files before.counts after.counts (Err e)
      → Performs job td to before after e.status e.promised
  no_params after e silent l = unloaded job base td to before is.text_named (λ p r h. digraph_then r p (h Graph) (λ g. next p g r h)) is.judges after e silent l

  module _ (p : Parameters) (files : Files) (counts : List ℕ → Counts) (l : LoadsParams base td before.files files before.counts counts (Ok p)) where
    come : ComesTo job p td before files counts (Properties ∷ []) (λ r h. digraph_then r p (h Graph) (λ g. next p g r h))
    come = loaded job base td to before is.text_named (λ q r h. digraph_then r q (h Graph) (λ g. next q g r h)) is.judges p files counts l

    -- the graph was not
    pub no_graph : (after : Outside) (e : Ending) → after.taken ≡ before.taken → LoadsGraph base p td files after.files counts after.counts (Err e) → Performs job td to before after e.status e.promised
    no_graph after e silent g =
        ends_reading job base td to before p files counts (Properties ∷ []) Graph is.graph_named (λ r. digraph_then r p) (λ x r h. next p x r h) come
        (λ h holds. holds) (λ t r n. refl) refl after e silent g.reads

    -- both were
    pub has_graph : (files' : Files) (counts' : List ℕ → Counts) (graph : Digraph) → LoadsGraph base p td files files' counts counts' (Ok graph)
        → ComesTo job p td before files' counts' (Graph ∷ Properties ∷ []) (λ r h. next p graph r h)
    has_graph files' counts' graph g = grind arith

-- ---- weights

-- what it does behind the graph
abbrev pub behind_graph : Option (List ℕ) → (Parameters → Digraph → Option (List ℕ) → Readings → (Input → Option (List ℕ)) → Judged) → Parameters → Digraph → Readings → (Input → Option (List ℕ)) → Judged
behind_graph given next p g r h = weights_then given g.nodes (h Weights) (λ ws. next p g ws r h)

module _ (job : Job) (base : List ℕ) (given : Option (List ℕ)) (next : Parameters → Digraph → Option (List ℕ) → Readings → (Input → Option (List ℕ)) → Judged) (is : IsOfGraph job base (behind_graph given next))
    (weights_are : input_name job Weights ≡ weights_named given Weights) (td to : Bool) (before : Outside) where
  module _ (p : Parameters) (files : Files) (counts : List ℕ → Counts) (l : LoadsParams base td before.files files before.counts counts (Ok p)) (files1 : Files) (counts1 : List ℕ → Counts) (graph : Digraph) (g : LoadsGraph base p td files files1 counts counts1 (Ok graph)) where
    behind : ComesTo job p td before files1 counts1 (Graph ∷ Properties ∷ []) (behind_graph given next p graph)
    behind = has_graph job base (behind_graph given next) is td to before p files counts l files1 counts1 graph g

    -- the weights were not
    pub no_weights : (after : Outside) (e : Ending) → after.taken ≡ before.taken → LoadsWeights given graph.nodes td files1 after.files counts1 after.counts (Err e)
        → Performs job td to before after e.status e.promised
    no_weights after e silent h = by_given given weights_are behind h
      where
        by_given : (some : Option (List ℕ)) → input_name job Weights ≡ weights_named some Weights
            → ComesTo job p td before files1 counts1 (Graph ∷ Properties ∷ []) (λ r x. weights_then some graph.nodes (x Weights) (λ ws. next p graph ws r x))
            → LoadsWeights some graph.nodes td files1 after.files counts1 after.counts (Err e) → Performs job td to before after e.status e.promised
        by_given None named k w = absurd (let never : false ≡ true = w.some in cc)
        by_given (Some name) named k w =
            let has : IsTrue (has_input job Weights) = ap is_some named in
            ends_named job base td to before p files1 counts1 (Graph ∷ Properties ∷ []) Weights (weights_named (Some name)) named (IsBadWeights graph.nodes) (weights_then (Some name) graph.nodes)
            (λ ws r x. next p graph ws r x) k (λ x holds. holds) (λ n. refl) (weights_refused job p graph.nodes g.nodes has) has after e silent w.reads

    -- all were
    pub has_weights : (files2 : Files) (counts2 : List ℕ → Counts) (ws : Option (List ℕ)) → LoadsWeights given graph.nodes td files1 files2 counts1 counts2 (Ok ws)
        → ComesTo job p td before files2 counts2 (Weights ∷ Graph ∷ Properties ∷ []) (λ r h. next p graph ws r h)
    has_weights files2 counts2 ws w =
        comes_on_named job base td to before p files1 counts1 (Graph ∷ Properties ∷ []) Weights (weights_named given) weights_are (IsBadWeights graph.nodes) (weights_then given graph.nodes)
        (λ y r x. next p graph y r x) behind files2 counts2 ws w.reads
