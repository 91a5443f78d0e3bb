-- What flows to the pages: two numbers for each page, side by side.
use Rattle.std.specs.Prelude.{ℕ, ◌*◌, ◌≤◌, List, [], ◌∷◌, All}
use Rattle.wg_params.specs.declared.limits.TheConstants.{MOST_PAGES}
use Rattle.wg_graph.specs.Digraph.{Digraph}
use Rattle.wg_rank.specs.Rank.{low_flow, high_flow}
use Rattle.wg_rank.specs.Intervals.{IsTable}
use Rattle.wg_rank.specs.declared.limits.TheConstants.{UNITS}

-- the first numbers are sums of lower bounds
abbrev pub low_flows : List ℕ → List ℕ
low_flows [] = []
low_flows (low ∷ []) = []
low_flows (low ∷ high ∷ rest) = low ∷ low_flows rest

-- the second numbers are sums of upper bounds
abbrev pub high_flows : List ℕ → List ℕ
high_flows [] = []
high_flows (low ∷ []) = []
high_flows (low ∷ high ∷ rest) = high ∷ high_flows rest

-- these are what flows to each page along arcs of such bounds, below and above
pub record AreFlows (g : Digraph) (l h : ℕ → ℕ) (inflows : List ℕ) : Type 0 where
  pub low : IsTable (low_flows inflows) g.nodes (low_flow g l)
  pub high : IsTable (high_flows inflows) g.nodes (high_flow g h)
  pub low_room : All (λ x. x ≤ MOST_PAGES * UNITS) (low_flows inflows)
  pub high_room : All (λ x. x ≤ MOST_PAGES * UNITS) (high_flows inflows)
