-- What stands for the pages that link to each page, one list after the other in one array, and how far it is counted or
-- filled in.
use Rattle.std.specs.Prelude.{◌≡◌, ℕ, ◌<◌, ◌≤◌, List, [], ◌∷◌, length, map, get_or, slice_range}
use Rattle.std.specs.List.{range_with_len}
use Rattle.wg_params.specs.declared.limits.TheConstants.{MOST_ARCS}
use Rattle.wg_graph.specs.Digraph.{Digraph, IsGraph, arc_count}
use Rattle.wg_transpose.specs.Transposed.{predecessors, transposed}
use Rattle.wg_transpose.specs.SoFar.{predecessors_below, start, AreCounts, AreFilled, OneMore}
use Rattle.wg_transpose.specs.declared.run.PageRun.{PageRun}
use Rattle.wg_transpose.specs.declared.run.TheConstants.{MOST_PAGES_IN_RUNS}
use Rattle.wg_transpose.specs.Runs.{runs_in, AreDegrees}

-- the runs of the pages below page k that link to page v
abbrev pub runs_below : Digraph → ℕ → ℕ → List PageRun
runs_below g k v = runs_in (predecessors_below g k v)

-- where the last run ends; what no page is, if there is none
abbrev pub last_to : List PageRun → ℕ
last_to [] = MOST_PAGES_IN_RUNS
last_to (r ∷ []) = r.to
last_to (r ∷ s ∷ rs) = last_to (s ∷ rs)

-- how many runs each of the n lists has, and where its last one ends
pub record AreCounted (n : ℕ) (lists : ℕ → List PageRun) (counts reach : List ℕ) : Type 0 where
  pub counted : AreCounts n lists counts
  pub places : length reach ≡ n
  pub reached : (v : ℕ) → v < n → get_or reach v 0 ≡ last_to (lists v)

-- where the last run of a list of pages ends
abbrev pub run_mark : List ℕ → ℕ
run_mark pages = last_to (runs_in pages)

-- nothing is noted
abbrev pub no_mark : List ℕ → ℕ
no_mark pages = MOST_PAGES_IN_RUNS

-- no run, in place of one that is not written yet
abbrev pub no_run : PageRun
no_run = record { from = 0; to = 0 }

-- Prefixes of what stands for lists of pages, and where the last of each list ends, as `mark` tells it.
pub record AreBegun {X : Type 0} (items : List ℕ → List X) (mark : List ℕ → ℕ) (none : X) (n : ℕ) (whole lists : ℕ → List ℕ)
    (ends reach : List ℕ) (all : List X) : Type 0 where
  pub filled : AreFilled none n (λ v. items (whole v)) (λ v. items (lists v)) ends all
  pub places : length reach ≡ n
  pub reached : (v : ℕ) → v < n → get_or reach v 0 ≡ mark (lists v)

-- page k is the next of list v of n lists, and no list is longer then than the whole one
pub record IsNext {X : Type 0} (items : List ℕ → List X) (n : ℕ) (whole b c : ℕ → List ℕ) (v k : ℕ) : Type 0 where
  pub list : v < n
  pub page : k < n
  pub more : OneMore b c v k
  pub fits : (w : ℕ) → length (items (c w)) ≤ length (items (whole w))

-- what stands for list v, of all that stand there
abbrev pub list_at : {X : Type 0} → List ℕ → List X → ℕ → List X
list_at ends all v = slice_range all (get_or (0 ∷ ends) v 0) (get_or ends v 0)

-- the graph in which each page has the predecessors that stand there
unfoldable pub graph_of : {X : Type 0} → (List X → List ℕ) → List ℕ → List X → Digraph
graph_of pages ends all = transposed
    (record {
      nodes = length ends;
      lists = map (λ v. pages (list_at ends all v)) (range_with_len 0 (length ends));
    })

-- this stands for the pages that link to each page of the graph, and these are the outdegrees
pub record HoldsArcs {X : Type 0} (items : List ℕ → List X) (none : X) (g : Digraph) (ends : List ℕ) (all : List X)
    (degrees : List ℕ) : Type 0 where
  pub proper : IsGraph g
  pub few_pages : g.nodes ≤ MOST_PAGES_IN_RUNS
  pub few_arcs : arc_count g ≤ MOST_ARCS
  pub lists : AreFilled none g.nodes (λ v. items (predecessors g v)) (λ v. items (predecessors g v)) ends all
  pub outdegrees : AreDegrees g degrees

-- it was counted how much stands for the pages that link to each page, and there is a place for each mark
pub record AreReady {X : Type 0} (items : List ℕ → List X) (g : Digraph) (counts reach : List ℕ) (size : ℕ) : Type 0 where
  pub proper : IsGraph g
  pub few_pages : g.nodes ≤ MOST_PAGES_IN_RUNS
  pub few_arcs : arc_count g ≤ MOST_ARCS
  pub counted : AreCounts g.nodes (λ v. items (predecessors g v)) counts
  pub places : length reach ≡ g.nodes
  pub room : size ≡ start (λ v. items (predecessors g v)) g.nodes
  pub few : size ≤ MOST_ARCS
