-- The arcs of a graph: which there are, and all of them ascending.
use Rattle.std.specs.Prelude.{ℕ, ◌+◌, Bool, List, [], ◌∷◌, ◌++◌, map}
use Rattle.wg_graph.specs.Numbers.{is_in}
use Rattle.wg_graph.specs.Digraph.{Digraph, successors}

-- whether there is an arc from page u to page v
abbrev pub has_arc : Digraph → ℕ → ℕ → Bool
has_arc g u v = is_in v (successors g u)

-- the arcs of the pages from u on, which have these lists
abbrev pub arcs_from : ℕ → List (List ℕ) → List (ℕ × ℕ)
arcs_from u [] = []
arcs_from u (list ∷ lists) = map (λ v. (u, v)) list ++ arcs_from (u + 1) lists

abbrev pub arcs_of : Digraph → List (ℕ × ℕ)
arcs_of g = arcs_from 0 g.lists
