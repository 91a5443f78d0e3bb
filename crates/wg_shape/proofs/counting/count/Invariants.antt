use Rattle.std.proofs.Common.{◌≡◌, length}
use Rattle.wg_transpose.specs.SoFar.{AreCounts}
use Rattle.wg_shape.specs.Classes.{reached_below}
use Rattle.wg_shape.proofs.counting.count.Given as goal

abbrev pub invariant-loop-page : goal.invariant-loop-page
invariant-loop-page g l = record {
  same : g.L.Lists.graph l.lists ≡ g.L.Lists.graph l.fn.lists;
  place : g.L.Lists.place l.lists ≡ l.page;
  counted : AreCounts (length l.fn.counts) (reached_below (g.L.Lists.graph l.fn.lists) l.classes l.page) l.counts;
}
