use Rattle.std.proofs.Common.{length, ◌-◌, ◌+◌, ◌≡◌, ◌≤◌, List, ℕ, IsTrue, Some}
use Rattle.std.specs.FinMap as map
use Rattle.wg_outside.specs.Outside.{NonDecreasing}
use Rattle.wg_outside.specs.declared.limits.TheConstants.{MOST_BYTES}
use Rattle.wg_lines.specs.Reading.{end_of, lines_after, lines_ahead}
use Rattle.wg_lines.proofs.reading.LineReader.advance.Given as goal

-- nothing was passed but the lines that were lent before
abbrev pub invariant-loop-self : goal.invariant-loop-self
invariant-loop-self g l = let d = g.D.Depot in record {
  first : l.self.first ≡ l.fn.self.first + length l.fn.self.lines;
  short : end_of l.self ≤ MOST_BYTES;
  lines : IsTrue d.told → (file : List ℕ) → map.get (d.files l.fn.depot) l.name ≡ Some file → lines_after file l.fn.self ≡ lines_ahead file l.self;
  same : d.files l.depot ≡ d.files l.fn.depot;
  later : NonDecreasing (d.counts l.fn.depot) (d.counts l.depot);
}

abbrev pub decreases-loop-self : goal.decreases-loop-self
decreases-loop-self g l = MOST_BYTES + 1 - end_of l.self
