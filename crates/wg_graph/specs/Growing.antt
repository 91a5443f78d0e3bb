-- A graph that grows arc by arc, in ascending order.
use Rattle.std.specs.Prelude.{ℕ, ◌+◌, ◌-◌, ◌<◌, ◌≤◌, List, [], ◌∷◌, ◌++◌, length, get_or, set, replicate}
use Rattle.wg_params.specs.declared.limits.TheConstants.{MOST_ARCS}
use Rattle.wg_graph.specs.Ascending.{Below}
use Rattle.wg_graph.specs.Digraph.{Digraph, successors, arc_count}

-- the arc from x to v may come next: both are pages, no page after x is begun, v is above the successors of x, and
-- there is room
pub record FollowsOn (g : Digraph) (x v : ℕ) : Type 0 where
  pub source : x < g.nodes
  pub target : v < g.nodes
  pub not_past : length g.lists ≤ x + 1
  pub above : Below v (successors g x)
  pub room : arc_count g < MOST_ARCS

-- the arc from x to v comes after those that are there: no page after x is begun, and v is above the successors of x
pub record ComesAfter (g : Digraph) (x v : ℕ) : Type 0 where
  pub not_past : length g.lists ≤ x + 1
  pub above : Below v (successors g x)

-- with empty lists up to n
abbrev pub padded : ℕ → List (List ℕ) → List (List ℕ)
padded n lists = lists ++ replicate (n - length lists) []

-- with v at the end of the list of page x, before which each page has a list
abbrev pub with_arc : List (List ℕ) → ℕ → ℕ → List (List ℕ)
with_arc lists x v = set (padded (x + 1) lists) x (get_or lists x [] ++ v ∷ [])
