use Rattle.std.proofs.Common.{take, IsTrue}
use Rattle.wg_lines.specs.Printing.{HasPrinted}
use Rattle.wg_rank.specs.CertificateText.{bound_lines}
use Rattle.wg_rank.proofs.writing.write_bounds.Given as goal

-- the lines so far are printed
abbrev pub invariant-loop-bound : goal.invariant-loop-bound
invariant-loop-bound g l = let s = g.S.Sink in record {
  printed : IsTrue s.told → HasPrinted (s.taken l.fn.sink) (s.taken l.sink) l.fn.lines (bound_lines (take l.bound-index l.low)) l.lines;
  later : s.later l.fn.sink l.sink;
}
