use Rattle.std.proofs.Common.{◌≡◌, ◌++◌, ℕ, List, map, length, IsTrue}
use Rattle.wg_lines.specs.Printing.{HasPrinted}
use Rattle.wg_outside.specs.Puts.{joined}
use Rattle.wg_outcomes.specs.Commands.{spaced}
use Rattle.wg_lookups.proofs.shown.write_coming.Given as goal

-- some successors were given and are printed, and the others are to come
abbrev pub invariant-successors : goal.invariant-successors
invariant-successors g l = let s = g.S.Sink in record {
  given : List ℕ;
  list : l.fn.successors.list ≡ given ++ l.successors.list;
  printed : IsTrue s.told → HasPrinted (s.taken l.fn.sink) (s.taken l.sink) l.fn.lines (joined (map spaced given)) l.lines;
  later : s.later l.fn.sink l.sink;
}

abbrev pub decreases-successors : goal.decreases-successors
decreases-successors g l = length l.successors.list
