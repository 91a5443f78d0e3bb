use Rattle.std.proofs.Common.{◌≡◌, List, length, take, map}
use Rattle.wg_grammar.specs.Record.{Whole}
use Rattle.wg_grammar.specs.Archive.{lists_of}
use Rattle.wg_stream.specs.Prefix.{AreBehind}
use Rattle.wg_memory.proofs.outdegrees.outdegrees_on.Given as goal

-- the array begins with the outdegrees of the records that were read
abbrev pub invariant-loop-page : goal.invariant-loop-page
invariant-loop-page l = record {
  same_params : l.pages.params ≡ l.fn.pages.params;
  same_page : l.pages.page ≡ l.page;
  same_bits : l.source.bits ≡ l.fn.source.bits;
  long : length l.outdegrees ≡ length l.fn.outdegrees;
  read : (behind : List Whole) × AreBehind (l.fn.source.bits) l.pages l.source.at behind × (take l.page l.outdegrees ≡ map length (lists_of behind));
}
