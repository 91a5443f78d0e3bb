use Rattle.std.proofs.Common.{◌≡◌, ℕ, Bool, List, ◌++◌, None, length}
use Rattle.wg_bits.specs.Bits.{rest}
use Rattle.wg_intervals.specs.Stored.{numbers_inside}
use Rattle.wg_graph.specs.Unions.{union_of}
use Rattle.wg_decoder.specs.Proper.Joining.{AreJoinable, Covered}
use Rattle.wg_decoder.specs.Proper.Laid.{IntervalsTo}
use Rattle.wg_decoder.proofs.proper.joining.join_intervals.Given as goal

abbrev pub invariant-intervals : goal.invariant-intervals
invariant-intervals l = record {
  on : (lefts lengths : List ℕ) (behind : List Bool) → length lefts ≡ l.count → IntervalsTo l.page l.least None lefts lengths (rest l.fn.cursor) behind → AreJoinable l.fn.row.waiting (numbers_inside lefts lengths)
      → Covered l.page l.least l.count (l.fn.row.list ++ union_of l.fn.row.waiting (numbers_inside lefts lengths)) behind l._index l.past l.row.list l.row.waiting (rest l.cursor);
  room : l.row.room ≡ l.fn.row.room;
}
