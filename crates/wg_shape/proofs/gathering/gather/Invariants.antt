use Rattle.std.proofs.Common.{◌≡◌, take}
use Rattle.wg_shape.specs.Classes.{whole}
use Rattle.wg_shape.proofs.gathering.gather.Given as goal

abbrev pub invariant-loop-class : goal.invariant-loop-class
invariant-loop-class g l = record {
  nodes : l.builder.nodes ≡ l.ranges.pages.count;
  lists : l.builder.lists ≡ take l.class (whole l.ranges.pages).lists;
}
