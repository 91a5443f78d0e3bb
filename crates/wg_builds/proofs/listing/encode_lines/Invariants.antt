use Rattle.std.proofs.Common.{◌≡◌, ◌+◌, ◌-◌, ◌≤◌, List, ℕ, IsTrue, Some, length}
use Rattle.std.specs.FinMap as map
use Rattle.wg_outside.specs.{Outside.NonDecreasing, declared.limits.TheConstants.MOST_BYTES}
use Rattle.wg_num.specs.Lines.{lines_of}
use Rattle.wg_lines.specs.Reading.{IsReadable, lines_after}
use Rattle.wg_arcs.specs.{Growing.SoFar, Listing.arcs_on}
use Rattle.wg_builds.specs.Listed.{IsUnderWay}
use Rattle.wg_builds.proofs.listing.encode_lines.Given as goal

abbrev pub invariant-loop-list : goal.invariant-loop-list
invariant-loop-list g l = let d = g.D.Depot in record {
  params : l.encoder.params ≡ l.fn.encoder.params;
  nodes : l.lines.nodes ≡ l.nodes;
  line : l.lines.line ≤ l.reader.first + length l.reader.lines;
  way : (done : List (List ℕ)) × IsUnderWay l.encoder l.list l.lines done × (IsTrue d.told → (file : List ℕ) → map.get (d.files l.fn.depot) l.name ≡ Some file
      → SoFar l.nodes (lines_of file) (lines_after file l.reader) l.lines.line (arcs_on done l.list));
  readable : IsTrue d.told → IsReadable (map.get (d.files l.fn.depot) l.name);
  same : d.files l.depot ≡ d.files l.fn.depot;
  later : NonDecreasing (d.counts l.fn.depot) (d.counts l.depot);
}

abbrev pub decreases-loop-list : goal.decreases-loop-list
decreases-loop-list g l = MOST_BYTES - (l.reader.first + length l.reader.lines)
