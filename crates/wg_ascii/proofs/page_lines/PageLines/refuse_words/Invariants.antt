use Rattle.std.proofs.Common.{◌≡◌, ◌+◌, ◌≤◌, ◌<◌, ◌++◌, List, ℕ, length}
use Rattle.wg_num.specs.Lines.{lines_of}
use Rattle.wg_ascii.specs.Growing.{IsUpTo}
use Rattle.wg_ascii.proofs.page_lines.PageLines.refuse_words.Given as goal

abbrev pub invariant-lines : goal.invariant-lines
invariant-lines l = record {
  nodes : l.self.nodes ≡ l.fn.self.nodes;
  arcs : l.self.arcs ≡ l.fn.self.arcs;
  onward : l.fn.self.line ≤ l.self.line;
  line : l.self.line + length l.rest ≤ l.fn.self.line + length l.bytes;
  over : 0 < length l.rest → l.self.nodes < l.self.line;
  read : (all later lists : List (List ℕ)) → IsUpTo all (lines_of l.bytes ++ later) lists l.fn.self → IsUpTo all (lines_of l.rest ++ later) lists l.self;
}

abbrev pub decreases-lines : goal.decreases-lines
decreases-lines l = length l.rest
