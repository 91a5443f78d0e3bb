-- The graph with each arc the other way round.
use Rattle.std.specs.Prelude.{ℕ, List, map}
use Rattle.std.specs.List.{range_with_len}
use Rattle.wg_graph.specs.Numbers.{numbers_where}
use Rattle.wg_graph.specs.Digraph.{Digraph}
use Rattle.wg_graph.specs.Arcs.{has_arc}

-- the pages with an arc to page v, ascending
abbrev pub predecessors : Digraph → ℕ → List ℕ
predecessors g v = numbers_where (λ u. has_arc g u v) 0 g.nodes

-- the predecessors of each page are its successors
abbrev pub transposed : Digraph → Digraph
transposed g = record { nodes = g.nodes; lists = map (predecessors g) (range_with_len 0 g.nodes) }
