-- Runs of numbers that follow one another, and the runs of the pages that link to a page.
use Rattle.std.specs.Prelude.{◌≡◌, ℕ, suc, ◌-◌, ◌<◌, ◌≤◌, ◌==◌, if◌then◌else◌, List, [], ◌∷◌, ◌++◌, length, get_or}
use Rattle.std.specs.List.{range_with_len}
use Rattle.wg_params.specs.declared.limits.TheConstants.{MOST_ARCS}
use Rattle.wg_graph.specs.Digraph.{Digraph, IsGraph, arc_count, outdegree}
use Rattle.wg_transpose.specs.SoFar.{start, AreCounts}
use Rattle.wg_transpose.specs.Transposed.{predecessors}
use Rattle.wg_transpose.specs.declared.run.PageRun.{PageRun}
use Rattle.wg_transpose.specs.declared.run.TheConstants.{MOST_PAGES_IN_RUNS}

-- the numbers of a run
abbrev pub numbers_of : PageRun → List ℕ
numbers_of r = range_with_len r.from (r.to - r.from)

-- the numbers of several runs, one run after the other
abbrev pub numbers_of_all : List PageRun → List ℕ
numbers_of_all [] = []
numbers_of_all (r ∷ rs) = numbers_of r ++ numbers_of_all rs

-- The first run begins at n or later, each has a number, and between two runs a number is left out.
abbrev pub StandApart : ℕ → List PageRun → Type 0
StandApart n [] = Unit {0}
StandApart n (r ∷ rs) = (n ≤ r.from) × (r.from < r.to) × StandApart (suc r.to) rs

-- These runs, and a number before them: it joins the first run if that begins right behind it.
abbrev pub with_first : ℕ → List PageRun → List PageRun
with_first x [] = record { from = x; to = suc x } ∷ []
with_first x (r ∷ rs) = if suc x == r.from then record { from = x; to = r.to } ∷ rs
    else record { from = x; to = suc x } ∷ r ∷ rs

-- the runs of an ascending list, each as long as can be
abbrev pub runs_in : List ℕ → List PageRun
runs_in [] = []
runs_in (x ∷ xs) = with_first x (runs_in xs)

-- the runs of the pages that link to page v
abbrev pub runs_to : Digraph → ℕ → List PageRun
runs_to g v = runs_in (predecessors g v)

-- these are the outdegrees of all pages
pub record AreDegrees (g : Digraph) (degrees : List ℕ) : Type 0 where
  pub pages : length degrees ≡ g.nodes
  pub each : (u : ℕ) → u < g.nodes → get_or degrees u 0 ≡ outdegree g u

-- How many runs and how many arcs lead to each page, its outdegree, and how many runs and arcs there are.
pub record Counted : Type 0 where
  pub counts : List ℕ
  pub links : List ℕ
  pub degrees : List ℕ
  pub runs : ℕ
  pub arcs : ℕ

-- this was counted of the graph, whose pages have numbers of 32 bits
pub record IsCountOf (g : Digraph) (c : Counted) : Type 0 where
  pub proper : IsGraph g
  pub few_pages : g.nodes ≤ MOST_PAGES_IN_RUNS
  pub few_arcs : arc_count g ≤ MOST_ARCS
  pub counted : AreCounts g.nodes (runs_to g) c.counts
  pub linked : AreCounts g.nodes (predecessors g) c.links
  pub degrees : AreDegrees g c.degrees
  pub runs : c.runs ≡ start (runs_to g) g.nodes
  pub arcs : c.arcs ≡ arc_count g
