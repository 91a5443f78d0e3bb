use Rattle.std.proofs.Common.{ℕ, take}
use Rattle.wg_graph.specs.Digraph.{Digraph}
use Rattle.wg_transpose.specs.SoFar.{predecessors_below, ArePlacedFrom, IsListOf}
use Rattle.wg_transpose.proofs.Seen.{with_page}
use Rattle.wg_transpose.proofs.placing.place_arcs.Given as goal

abbrev pub invariant-loop-target : goal.invariant-loop-target
invariant-loop-target l =
    (g : Digraph) (n : ℕ) → IsListOf g l.page l.list → ArePlacedFrom g l.from n (predecessors_below g l.page) l.fn.ends l.fn.all
    → ArePlacedFrom g l.from n (with_page g l.page (take l.target-index l.list)) l.ends l.all
