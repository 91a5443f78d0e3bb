-- What flows to a page along runs of pages, as differences of sums over all pages below.
use Rattle.std.specs.Prelude.{ℕ, ◌-◌, ◌/◌, ◌==◌, cond, List}
use Rattle.std.specs.Int.{div_ceil}
use Rattle.std.specs.List.{sum_by}
use Rattle.wg_graph.specs.Digraph.{Digraph, outdegree}
use Rattle.wg_transpose.specs.declared.run.PageRun.{PageRun}

-- a graph, and what its pages shared out last, in lanes
pub record Pulled : Type 0 where
  pub graph : Digraph
  pub lanes : List (List ℕ)

-- the share of page u, rounded down, and up
abbrev pub low_share : Digraph → (ℕ → ℕ) → ℕ → ℕ
low_share g l u = l u / outdegree g u

abbrev pub high_share : Digraph → (ℕ → ℕ) → ℕ → ℕ
high_share g h u = div_ceil (h u) (outdegree g u)

-- what page u gives to each of its successors, which is nothing if it has none
abbrev pub given : Digraph → (ℕ → ℕ) → ℕ → ℕ
given g share u = cond (outdegree g u == 0) 0 (share u)

-- what the sums rise by along runs
abbrev pub along : (ℕ → ℕ) → List PageRun → ℕ
along sums runs = sum_by (λ r. sums r.to - sums r.from) runs
