use Rattle.std.proofs.Common.{◌≡◌, Bool, List, [], length}
use Rattle.wg_graph.specs.Digraph.{arc_count}
use Rattle.wg_grammar.specs.Record.{Whole}
use Rattle.wg_grammar.specs.Archive.{lists_of}
use Rattle.wg_stream.specs.Prefix.{AreBehind}
use Rattle.wg_stream.proofs.records.read_lists.Given as goal

-- if the source can tell its bits, the graph has the lists of the records that were read
abbrev pub invariant-loop-page : goal.invariant-loop-page
invariant-loop-page g l = let s = g.S.Source in record {
  same_params : l.pages.params ≡ l.fn.pages.params;
  same_page : l.pages.page ≡ l._page;
  same_nodes : l.graph.nodes ≡ l.fn.graph.nodes;
  counted : arc_count l.graph ≡ l.pages.arcs;
  begun : length l.graph.lists ≡ l._page;
  later : s.later l.fn.source l.source;
  read : (bits : List Bool) → s.reads_from l.fn.source bits → AreBehind bits l.fn.pages (s.offset l.fn.source) [] → (behind : List Whole) × AreBehind bits l.pages (s.offset l.source) behind × (l.graph.lists ≡ lists_of behind);
}
