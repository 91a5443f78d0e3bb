-- How many runs and arcs there are, and the outdegrees.
use Rattle.std.proofs.Common.{◌≡◌, ℕ, ◌+◌, ◌<◌, ◌≤◌, List, [], length, take, get_or, set, ap, arith, get_or-set_same, get_or-set_other}
use Rattle.std.specs.List.{sum_by}
use Rattle.std.proofs.lemmas.List.Sums.{sum_by_more}
use Rattle.wg_graph.specs.Digraph.{Digraph, IsGraph, arc_count, successors, outdegree}
use Rattle.wg_graph.specs.Arcs.{has_arc}
use Rattle.wg_transpose.specs.Transposed.{predecessors}
use Rattle.wg_transpose.specs.SoFar.{start}
use Rattle.wg_transpose.proofs.Reversed.{list_is}
use Rattle.wg_transpose.proofs.Seen.{where_few}
use Rattle.wg_transpose.proofs.Totals.{start_few, start_of_all}
use Rattle.wg_transpose.specs.Runs.{runs_to}
use Rattle.wg_transpose.specs.Grown.{few_runs}

-- ---- how many runs there are

pub few_in_all : (g : Digraph) → IsGraph g → start (runs_to g) g.nodes ≤ arc_count g
few_in_all g ok = omega (arith, start_few (runs_to g) (predecessors g) (λ v. few_runs (predecessors g v)) g.nodes, start_of_all g ok)

-- ---- outdegrees

module _ (g : Digraph) (ok : IsGraph g) (page : ℕ) (lt : page < g.nodes) (list : List ℕ) (is : list ≡ successors g page) where
  pub degree_few : length list ≤ g.nodes
  degree_few = omega (arith, ap length is, ap length (list_is g ok page lt), where_few (λ v. has_arc g page v) g.nodes)

  pub degrees_more : (degrees : List ℕ) → length degrees ≡ g.nodes → ((u : ℕ) → u < page → get_or degrees u 0 ≡ outdegree g u)
      → (u : ℕ) → u < page + 1 → get_or (set degrees page (length list)) u 0 ≡ outdegree g u
  degrees_more degrees pages each u below = grind (arith, get_or-set_same, get_or-set_other)

  pub arcs_more : sum_by (λ s. length s) (take page g.lists) + length list ≡ sum_by (λ s. length s) (take (page + 1) g.lists)
  arcs_more = omega (arith, sum_by_more (λ (s : List ℕ). length s) g.lists page [] (omega (arith, ok.counted)), ap length is)
