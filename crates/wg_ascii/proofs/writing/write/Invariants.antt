use Rattle.std.proofs.Common.{[], take, IsTrue}
use Rattle.wg_lines.specs.Printing.{HasPrinted}
use Rattle.wg_ascii.specs.Text.{nodes_line, list_line}
use Rattle.wg_ascii.proofs.Texts.{texts}
use Rattle.wg_ascii.proofs.writing.write.Given as goal

-- the first line and the pages so far are printed
abbrev pub invariant-loop-page : goal.invariant-loop-page
invariant-loop-page g l = let s = g.S.Sink in record {
  printed : IsTrue s.told → HasPrinted (s.taken l.fn.sink) (s.taken l.sink) [] (texts list_line (nodes_line l.graph.nodes) (take l.page l.graph.lists)) l.lines;
  later : s.later l.fn.sink l.sink;
}
