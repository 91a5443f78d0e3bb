use Rattle.std.proofs.Common.{◌≡◌}
use Rattle.wg_transpose.specs.SoFar.{AreCounts, predecessors_below}
use Rattle.wg_transpose.proofs.counting.count.Given as goal

abbrev pub invariant-loop-page : goal.invariant-loop-page
invariant-loop-page g l = record {
  same : g.L.Lists.graph l.lists ≡ g.L.Lists.graph l.fn.lists;
  place : g.L.Lists.place l.lists ≡ l._page;
  counted : AreCounts (g.L.Lists.graph l.fn.lists).nodes (predecessors_below (g.L.Lists.graph l.fn.lists) l._page) l.counts;
}
