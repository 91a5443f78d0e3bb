use Rattle.std.proofs.Common.{◌≡◌, length}
use Rattle.wg_transpose.specs.SoFar.{predecessors_below, ArePlacedFrom}
use Rattle.wg_transpose.proofs.placing.place.Given as goal

abbrev pub invariant-loop-page : goal.invariant-loop-page
invariant-loop-page g l = record {
  same : g.L.Lists.graph l.lists ≡ g.L.Lists.graph l.fn.lists;
  place : g.L.Lists.place l.lists ≡ l.page;
  placed : ArePlacedFrom (g.L.Lists.graph l.fn.lists) l.from (length l.fn.ends) (predecessors_below (g.L.Lists.graph l.fn.lists) l.page) l.ends l.all;
}
