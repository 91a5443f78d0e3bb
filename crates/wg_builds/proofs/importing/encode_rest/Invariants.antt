use Rattle.std.proofs.Common.{◌≡◌, ◌+◌, ◌-◌, ◌≤◌, List, ℕ, IsTrue, Some, length}
use Rattle.std.specs.FinMap as map
use Rattle.wg_outside.specs.{Outside.NonDecreasing, declared.limits.TheConstants.MOST_BYTES}
use Rattle.wg_num.specs.Lines.{lines_of}
use Rattle.wg_lines.specs.Reading.{lines_after}
use Rattle.wg_ascii.specs.Growing.{IsUpTo}
use Rattle.wg_encoder.specs.ArchiveInMemory.{HasEncoded}
use Rattle.wg_builds.specs.Imported.{KeepsPace}
use Rattle.wg_builds.proofs.importing.encode_rest.Given as goal

abbrev pub invariant-loop-encoder : goal.invariant-loop-encoder
invariant-loop-encoder g l = let d = g.D.Depot in record {
  params : l.encoder.params ≡ l.fn.encoder.params;
  nodes : l.lines.nodes ≡ l.fn.lines.nodes;
  line : l.lines.line ≤ l.reader.first + length l.reader.lines;
  pace : KeepsPace l.encoder l.lines;
  way : (done : List (List ℕ)) × HasEncoded l.encoder done × (IsTrue d.told → (file : List ℕ) → map.get (d.files l.fn.depot) l.name ≡ Some file → IsUpTo (lines_of file) (lines_after file l.reader) done l.lines);
  same : d.files l.depot ≡ d.files l.fn.depot;
  later : NonDecreasing (d.counts l.fn.depot) (d.counts l.depot);
}

abbrev pub decreases-loop-encoder : goal.decreases-loop-encoder
decreases-loop-encoder g l = MOST_BYTES - (l.reader.first + length l.reader.lines)
