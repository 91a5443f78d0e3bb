use Rattle.std.proofs.Common.{◌≡◌, List, length, take}
use Rattle.wg_graph.specs.Pieces.{pieces, EndsAt}
use Rattle.wg_grammar.specs.Record.{Whole}
use Rattle.wg_grammar.specs.Archive.{lists_of}
use Rattle.wg_stream.specs.Prefix.{AreBehind}
use Rattle.wg_memory.proofs.lists.lists_on.Given as goal

-- the arrays begin with the lists of the records that were read
abbrev pub invariant-loop-page : goal.invariant-loop-page
invariant-loop-page l = record {
  same_params : l.pages.params ≡ l.fn.pages.params;
  same_page : l.pages.page ≡ l.page;
  same_arcs : l.pages.arcs ≡ l.arcs;
  same_bits : l.source.bits ≡ l.fn.source.bits;
  ends_long : length l.ends ≡ length l.fn.ends;
  all_long : length l.all ≡ length l.fn.all;
  whole : EndsAt 0 (take l.page l.ends) (length (take l.arcs l.all));
  read : (behind : List Whole) × AreBehind (l.fn.source.bits) l.pages l.source.at behind × (pieces 0 (take l.page l.ends) (take l.arcs l.all) ≡ lists_of behind);
}
