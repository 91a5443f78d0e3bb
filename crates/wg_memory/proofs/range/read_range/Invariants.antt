use Rattle.std.proofs.Common.{◌≡◌, ◌≤◌, length, take}
use Rattle.wg_bits.specs.Bits.{bits_of}
use Rattle.wg_graph.specs.Pieces.{pieces, EndsAt}
use Rattle.wg_memory.specs.Many.{end_before}
use Rattle.wg_memory.specs.Range.{AreKnown}
use Rattle.wg_memory.proofs.range.read_range.Given as goal

-- the arrays begin with the lists of the pages that were read, and their depths are kept
abbrev pub invariant-loop-index : goal.invariant-loop-index
invariant-loop-index l = record {
  ends_long : length l.ends ≡ length l.fn.ends;
  out_long : length l.out ≡ length l.fn.out;
  last : end_before l.ends l.index ≡ l.used;
  few : l.used ≤ length l.out;
  whole : EndsAt 0 (take l.index l.ends) (length (take l.used l.out));
  known : AreKnown l.params (bits_of l.graph) l.places l.first (pieces 0 (take l.index l.ends) (take l.used l.out)) l.depths;
}
