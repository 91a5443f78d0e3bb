use Rattle.std.proofs.Common.{take, IsTrue}
use Rattle.wg_lines.specs.Printing.{HasPrinted}
use Rattle.wg_arcs.specs.Text.{page_lines}
use Rattle.wg_arcs.proofs.writing.print_list.Given as goal

-- the lines so far are printed
abbrev pub invariant-loop-v : goal.invariant-loop-v
invariant-loop-v g l = let s = g.S.Sink in record {
  printed : IsTrue s.told → HasPrinted (s.taken l.fn.sink) (s.taken l.sink) l.fn.lines (page_lines l.page (take l.v-index l.list)) l.lines;
  later : s.later l.fn.sink l.sink;
}
