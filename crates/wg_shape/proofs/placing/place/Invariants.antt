use Rattle.std.proofs.Common.{◌≡◌, length}
use Rattle.wg_transpose.specs.SoFar.{onward, ArePrefixes}
use Rattle.wg_shape.specs.Classes.{reached_by, reached_below}
use Rattle.wg_shape.proofs.placing.place.Given as goal

abbrev pub invariant-loop-page : goal.invariant-loop-page
invariant-loop-page g l = record {
  same : g.L.Lists.graph l.lists ≡ g.L.Lists.graph l.fn.lists;
  place : g.L.Lists.place l.lists ≡ l.page;
  placed : ArePrefixes (length l.fn.ends) (onward l.from (reached_by (g.L.Lists.graph l.fn.lists) l.classes)) (onward l.from (reached_below (g.L.Lists.graph l.fn.lists) l.classes l.page)) l.ends l.all;
}
