use Rattle.std.proofs.Common.{◌≡◌, ℕ, ◌<◌, length, take, get_or}
use Rattle.std.specs.List.{sum_by}
use Rattle.wg_graph.specs.Digraph.{outdegree}
use Rattle.wg_transpose.specs.SoFar.{AreCounts, predecessors_below}
use Rattle.wg_transpose.specs.Held.{runs_below, AreCounted}
use Rattle.wg_transpose.proofs.run_counting.count_lists.Given as goal

abbrev pub invariant-loop-page : goal.invariant-loop-page
invariant-loop-page g l = record {
  same : g.L.Lists.graph l.lists ≡ g.L.Lists.graph l.fn.lists;
  place : g.L.Lists.place l.lists ≡ l.page;
  counted : AreCounted (g.L.Lists.graph l.fn.lists).nodes (runs_below (g.L.Lists.graph l.fn.lists) l.page) l.counts l.reach;
  linked : AreCounts (g.L.Lists.graph l.fn.lists).nodes (predecessors_below (g.L.Lists.graph l.fn.lists) l.page) l.links;
  degrees : (u : ℕ) → u < l.page → get_or l.degrees u 0 ≡ outdegree (g.L.Lists.graph l.fn.lists) u;
  arcs : l.arcs ≡ sum_by (λ s. length s) (take l.page (g.L.Lists.graph l.fn.lists).lists);
}
