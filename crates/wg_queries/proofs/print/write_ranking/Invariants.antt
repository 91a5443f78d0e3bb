use Rattle.std.proofs.Common.{[], take, IsTrue}
use Rattle.wg_lines.specs.Printing.{HasPrinted}
use Rattle.wg_outcomes.specs.Ranked.{rank_lines}
use Rattle.wg_queries.proofs.print.write_ranking.Given as goal

-- the lines of the places so far are printed
abbrev pub invariant-loop-place : goal.invariant-loop-place
invariant-loop-place g l = let s = g.S.Sink in record {
  printed : IsTrue s.told → HasPrinted (s.taken l.fn.sink) (s.taken l.sink) [] (rank_lines l.first (take l.place l.first.pages)) l.lines;
  later : s.later l.fn.sink l.sink;
}
