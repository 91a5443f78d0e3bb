use Rattle.std.proofs.Common.{◌≡◌, ◌++◌, drop}
use Rattle.wg_graph.specs.Ascending.{Ascends}
use Rattle.wg_blocks.specs.Canonical.{mask_of}
use Rattle.wg_greedy.specs.Fields.{extras, copy_fields, extra_fields}
use Rattle.wg_encoder.specs.Cost.{room_after}
use Rattle.wg_encoder.specs.Dues.{block_dues, extra_dues, IsWithin, MayCome}
use Rattle.wg_encoder.proofs.lists.room_after_lists.Given as goal

abbrev pub invariant-loop-y : goal.invariant-loop-y
invariant-loop-y l = record {
  within : IsWithin l.blocks l.y-index;
  come : MayCome l.extras l.members;
  up : Ascends 0 (drop l.y-index l.referenced);
  fields : room_after l.room (block_dues l.blocks (mask_of l.members (drop l.y-index l.referenced)) ++ extra_dues l.extras (extras l.members (drop l.y-index l.referenced)))
      ≡ room_after l.fn.room (copy_fields l.params l.reference l.referenced l.list ++ extra_fields l.params l.page (extras l.list l.referenced));
}
