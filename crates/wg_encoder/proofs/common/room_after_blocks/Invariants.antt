use Rattle.std.proofs.Common.{◌≡◌, ℕ, ◌+◌, ◌≤◌, List, length}
use Rattle.wg_params.specs.Codes.{IsCode}
use Rattle.wg_blocks.specs.Canonical.{mask_of}
use Rattle.wg_marks.specs.Masks.{mask_bits}
use Rattle.wg_greedy.specs.Fields.{copy_fields}
use Rattle.wg_encoder.specs.Cost.{room_after}
use Rattle.wg_encoder.specs.Dues.{dues_of_blocks}
use Rattle.wg_encoder.proofs.common.room_after_blocks.Given as goal

abbrev pub invariant-loop-block : goal.invariant-loop-block
invariant-loop-block l = record {
  few : l.tally.count + length l.blocks ≤ 64;
  counts : IsCode l.tally.counts;
  code : IsCode l.tally.code;
  fields : (list referenced : List ℕ) → mask_bits l.width l.mask ≡ mask_of list referenced → room_after l.room (dues_of_blocks l.tally l.blocks) ≡ room_after l.fn.room (copy_fields l.params l.reference referenced list);
}

abbrev pub decreases-loop-block : goal.decreases-loop-block
decreases-loop-block l = length l.blocks
