use Rattle.std.proofs.Common.{◌≡◌, ◌+◌, ◌≤◌, ◌++◌, List, [], ℕ, length}
use Rattle.wg_params.specs.declared.limits.TheConstants.{MOST_ARCS}
use Rattle.wg_num.specs.Lines.{lines_of}
use Rattle.wg_graph.specs.Digraph.{arc_count}
use Rattle.wg_ascii.specs.Growing.{IsUpTo}
use Rattle.wg_ascii.proofs.reading.read_lists.Given as goal

abbrev pub invariant-pages : goal.invariant-pages
invariant-pages l = record {
  nodes : l.lines.nodes ≡ l.fn.lines.nodes;
  same : l.builder.nodes ≡ l.fn.builder.nodes;
  count : length l.builder.lists + 1 ≡ l.lines.line;
  page : l.lines.line ≤ l.lines.nodes + 1;
  arcs : arc_count l.builder ≡ l.lines.arcs;
  few : l.lines.arcs ≤ MOST_ARCS;
  shorter : length l.rest ≤ length l.bytes;
  read : (all later : List (List ℕ)) → IsUpTo all (lines_of l.bytes ++ later) [] l.fn.lines → IsUpTo all (lines_of l.rest ++ later) l.builder.lists l.lines;
}

abbrev pub decreases-pages : goal.decreases-pages
decreases-pages l = length l.rest
