use Rattle.std.proofs.Common.{[], take, IsTrue}
use Rattle.wg_lines.specs.Printing.{HasPrinted}
use Rattle.wg_ascii.specs.Text.{word_after}
use Rattle.wg_ascii.proofs.Texts.{texts}
use Rattle.wg_ascii.proofs.writing.print_after.Given as goal

-- the numbers so far are printed
abbrev pub invariant-loop-v : goal.invariant-loop-v
invariant-loop-v g l = let s = g.S.Sink in record {
  printed : IsTrue s.told → HasPrinted (s.taken l.fn.sink) (s.taken l.sink) l.fn.lines (texts word_after [] (take l.v-index l.list)) l.lines;
  later : s.later l.fn.sink l.sink;
}
