use Rattle.std.proofs.Common.{◌≡◌, ◌+◌, ◌≤◌, ◌++◌, List, ℕ, length}
use Rattle.wg_num.specs.Lines.{lines_of}
use Rattle.wg_arcs.specs.{Growing.SoFar, Listing.arcs_on}
use Rattle.wg_builds.specs.Listed.{IsUnderWay}
use Rattle.wg_builds.proofs.listing.take_lines.Given as goal

abbrev pub invariant-lines : goal.invariant-lines
invariant-lines l = record {
  params : l.encoder.params ≡ l.fn.encoder.params;
  nodes : l.lines.nodes ≡ l.fn.lines.nodes;
  line : l.lines.line + length l.rest ≤ l.fn.lines.line + length l.text;
  way : (done : List (List ℕ)) → IsUnderWay l.fn.encoder l.fn.list l.fn.lines done
      → (now : List (List ℕ)) × IsUnderWay l.encoder l.list l.lines now × ((all later : List (List ℕ)) → SoFar l.fn.lines.nodes all (lines_of l.text ++ later) l.fn.lines.line (arcs_on done l.fn.list)
      → SoFar l.fn.lines.nodes all (lines_of l.rest ++ later) l.lines.line (arcs_on now l.list));
}

abbrev pub decreases-lines : goal.decreases-lines
decreases-lines l = length l.rest
