use Rattle.std.proofs.Common.{◌≡◌, ◌+◌, ◌≤◌, ◌++◌, List, ℕ, length}
use Rattle.wg_num.specs.Lines.{lines_of}
use Rattle.wg_ascii.specs.Growing.{IsUpTo}
use Rattle.wg_encoder.specs.ArchiveInMemory.{HasEncoded}
use Rattle.wg_builds.specs.Imported.{KeepsPace}
use Rattle.wg_builds.proofs.importing.take_lines.Given as goal

abbrev pub invariant-pages : goal.invariant-pages
invariant-pages l = record {
  params : l.encoder.params ≡ l.fn.encoder.params;
  nodes : l.lines.nodes ≡ l.fn.lines.nodes;
  line : l.lines.line + length l.rest ≤ l.fn.lines.line + length l.text;
  pace : KeepsPace l.encoder l.lines;
  goes : (done : List (List ℕ)) → HasEncoded l.fn.encoder done
      → (now : List (List ℕ)) × HasEncoded l.encoder now × ((all later : List (List ℕ)) → IsUpTo all (lines_of l.text ++ later) done l.fn.lines → IsUpTo all (lines_of l.rest ++ later) now l.lines);
}

abbrev pub decreases-pages : goal.decreases-pages
decreases-pages l = length l.rest
