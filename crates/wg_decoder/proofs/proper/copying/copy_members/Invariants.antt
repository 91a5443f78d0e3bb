use Rattle.std.proofs.Common.{◌≡◌, ℕ, ◌≤◌, Bool, List, length}
use Rattle.std.specs.Prelude.{sum}
use Rattle.wg_bits.specs.Bits.{rest}
use Rattle.wg_blocks.specs.Stored.{blocks_of}
use Rattle.wg_decoder.specs.Proper.Joining.{Copying}
use Rattle.wg_decoder.specs.Proper.Laid.{WordsTo}
use Rattle.wg_decoder.proofs.proper.copying.copy_members.Given as goal

abbrev pub invariant-copies : goal.invariant-copies
invariant-copies l = record {
  on : (values : List ℕ) (behind : List Bool) → length values ≡ l.count → sum (blocks_of values) ≤ length l.members → WordsTo l.code values (rest l.fn.cursor) behind
      → Copying l.code l.count l.members values behind l.fn.row.list l.index l.done l.row.list (rest l.cursor);
  fits : l.done ≤ length l.members;
  waiting : l.row.waiting ≡ l.fn.row.waiting;
  room : l.row.room ≡ l.fn.row.room;
}
