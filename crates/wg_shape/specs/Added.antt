-- A list that is added to a graph in the making, arc by arc.
use Rattle.std.specs.Prelude.{◌≡◌, ◌≢◌, ℕ, ◌+◌, ◌≤◌, List, length, take}
use Rattle.wg_graph.specs.Digraph.{Digraph, successors, arc_count}

-- the first k numbers of the list are the successors of page x, which had none; nothing else has changed
pub record Added (list : List ℕ) (x k : ℕ) (before after : Digraph) : Type 0 where
  pub nodes : after.nodes ≡ before.nodes
  pub begun : length after.lists ≤ x + 1
  pub within : k ≤ length list
  pub here : successors after x ≡ take k list
  pub others : (y : ℕ) → y ≢ x → successors after y ≡ successors before y
  pub arcs : arc_count after ≡ arc_count before + k
