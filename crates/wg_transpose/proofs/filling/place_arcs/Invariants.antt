use Rattle.std.proofs.Common.{take}
use Rattle.wg_graph.specs.Digraph.{Digraph}
use Rattle.wg_transpose.specs.Transposed.{predecessors}
use Rattle.wg_transpose.specs.SoFar.{predecessors_below, IsListOf}
use Rattle.wg_transpose.specs.Held.{AreBegun}
use Rattle.wg_transpose.proofs.Seen.{with_page}
use Rattle.wg_transpose.proofs.filling.place_arcs.Given as goal

abbrev pub invariant-loop-target : goal.invariant-loop-target
invariant-loop-target a l = let t = a.T.InArc in
    (g : Digraph) → IsListOf g l.page l.list
    → AreBegun t.items t.mark t.none g.nodes (predecessors g) (predecessors_below g l.page) l.fn.ends l.fn.reach l.fn.all
    → AreBegun t.items t.mark t.none g.nodes (predecessors g) (with_page g l.page (take l.target-index l.list)) l.ends l.reach l.all
