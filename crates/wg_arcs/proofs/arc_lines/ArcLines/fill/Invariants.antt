use Rattle.std.proofs.Common.{◌≡◌, ◌≤◌, ◌+◌, ◌++◌, List, ℕ, None, length}
use Rattle.wg_num.specs.Lines.{lines_of}
use Rattle.wg_arcs.specs.Growing.{SoFar}
use Rattle.wg_arcs.specs.Listing.{AreListed, arcs_on}
use Rattle.wg_arcs.proofs.arc_lines.ArcLines.fill.Given as goal

abbrev pub invariant-lines : goal.invariant-lines
invariant-lines l = record {
  nodes : l.self.nodes ≡ l.fn.self.nodes;
  line : l.self.line + length l.rest ≤ l.fn.self.line + length l.text;
  short : length l.rest ≤ length l.text;
  listed : (done : List (List ℕ)) → length done ≡ l.page → AreListed done l.fn.list None l.fn.self → AreListed done l.list None l.self;
  read : (done all later : List (List ℕ)) → length done ≡ l.page → AreListed done l.fn.list None l.fn.self → SoFar l.fn.self.nodes all (lines_of l.text ++ later) l.fn.self.line (arcs_on done l.fn.list)
      → SoFar l.fn.self.nodes all (lines_of l.rest ++ later) l.self.line (arcs_on done l.list);
}

abbrev pub decreases-lines : goal.decreases-lines
decreases-lines l = length l.rest
