use Rattle.std.proofs.Common.{◌≡◌}
use Rattle.wg_transpose.specs.Transposed.{predecessors}
use Rattle.wg_transpose.specs.SoFar.{predecessors_below}
use Rattle.wg_transpose.specs.Held.{AreBegun}
use Rattle.wg_transpose.proofs.filling.place.Given as goal

abbrev pub invariant-loop-page : goal.invariant-loop-page
invariant-loop-page g l = let graph = g.L.Lists.graph l.fn.lists in let t = g.T.InArc in record {
  same : g.L.Lists.graph l.lists ≡ graph;
  place : g.L.Lists.place l.lists ≡ l.page;
  begun : AreBegun t.items t.mark t.none graph.nodes (predecessors graph) (predecessors_below graph l.page) l.ends l.reach l.all;
}
