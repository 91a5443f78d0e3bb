use Rattle.std.proofs.Common.{◌≡◌, ◌≤◌, length, take}
use Rattle.wg_bits.specs.Bits.{bits_of}
use Rattle.wg_graph.specs.Pieces.{pieces, EndsAt}
use Rattle.wg_memory.specs.Many.{AreListsOf, end_before}
use Rattle.wg_memory.proofs.many.successors_of.Given as goal

-- the arrays begin with the lists of the pages that were read
abbrev pub invariant-loop-index : goal.invariant-loop-index
invariant-loop-index l = record {
  ends_long : length l.ends ≡ length l.fn.ends;
  out_long : length l.out ≡ length l.fn.out;
  last : end_before l.ends l.index ≡ l.used;
  few : l.used ≤ length l.out;
  whole : EndsAt 0 (take l.index l.ends) (length (take l.used l.out));
  lists : AreListsOf l.fn.params (bits_of l.fn.graph) l.fn.places l.fn.pages (pieces 0 (take l.index l.ends) (take l.used l.out));
}
