-- The union of two graphs.
use Rattle.std.specs.Prelude.{◌≡◌, ℕ, ◌<◌, ◌≤◌, min, max, ◌||◌, List, length, map}
use Rattle.std.specs.List.{sum_by, range_with_len}
use Rattle.wg_graph.specs.Digraph.{Digraph, IsGraph, successors, arc_count}
use Rattle.wg_graph.specs.Arcs.{has_arc}
use Rattle.wg_graph.specs.Unions.{union_of}

-- the graph u has as many pages as the larger of the two, and an arc exactly if one of them has it
pub record IsUnion (g h u : Digraph) : Type 0 where
  pub nodes : u.nodes ≡ max g.nodes h.nodes
  pub proper : IsGraph u
  pub arcs : (x v : ℕ) → has_arc u x v ≡ (has_arc g x v || has_arc h x v)

-- the successors of page x in both; a graph has none of a page that it does not have
abbrev pub both : Digraph → Digraph → ℕ → List ℕ
both g h x = union_of (successors g x) (successors h x)

-- the lists of the first n pages
abbrev pub lists_of : Digraph → Digraph → ℕ → List (List ℕ)
lists_of g h n = map (both g h) (range_with_len 0 n)

abbrev pub union_graph : Digraph → Digraph → Digraph
union_graph g h = record { nodes = max g.nodes h.nodes; lists = lists_of g h (max g.nodes h.nodes) }

-- the lists of page x come next, or all pages are behind
abbrev pub AreAt : ℕ → Digraph → ℕ → Digraph → ℕ → Type 0
AreAt x g a h b = (a ≡ min x g.nodes) × (b ≡ min x h.nodes)

-- the lists of the pages below x are there, and no others
pub record UnionSoFar (g h : Digraph) (x : ℕ) (b : Digraph) : Type 0 where
  pub nodes : b.nodes ≡ max g.nodes h.nodes
  pub begun : length b.lists ≤ x
  pub done : (y : ℕ) → y < x → successors b y ≡ both g h y
  pub arcs : arc_count b ≡ sum_by (λ s. length s) (lists_of g h x)
