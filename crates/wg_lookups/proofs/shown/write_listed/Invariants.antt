use Rattle.std.proofs.Common.{map, take, IsTrue}
use Rattle.wg_lines.specs.Printing.{HasPrinted}
use Rattle.wg_outside.specs.Puts.{joined}
use Rattle.wg_outcomes.specs.Commands.{spaced}
use Rattle.wg_lookups.proofs.shown.write_listed.Given as goal

-- the successors so far are printed
abbrev pub invariant-loop-successor : goal.invariant-loop-successor
invariant-loop-successor g l = let s = g.S.Sink in record {
  printed : IsTrue s.told → HasPrinted (s.taken l.fn.sink) (s.taken l.sink) l.fn.lines (joined (map spaced (take l.successor-index l.list))) l.lines;
  later : s.later l.fn.sink l.sink;
}
