use Rattle.std.proofs.Common.{◌≡◌, ◌+◌, [], Ok, map, take, sum_by, IsTrue}
use Rattle.wg_lines.specs.Printing.{HasPrinted}
use Rattle.wg_outside.specs.Puts.{joined}
use Rattle.wg_grammar.specs.Archive.{Accepted, ReadsGraph}
use Rattle.wg_outcomes.specs.Commands.{line_in}
use Rattle.wg_stream.specs.AllRecords.{AllRecords}
use Rattle.wg_lookups.specs.Showing.{chain_records}
use Rattle.wg_lookups.proofs.show.print_pages.Given as goal

-- the lines of the pages so far are printed, and the records of their chains were opened
abbrev pub invariant-loop-page : goal.invariant-loop-page
invariant-loop-page g l = let s = g.O.Sink in record {
  printed : IsTrue s.told → (a : Accepted) → ReadsGraph l.archive.params l.archive.bits (Ok a)
      → HasPrinted (s.taken l.fn.out) (s.taken l.out) [] (joined (map (line_in a.graph) (take l.page-index l.pages))) l.lines;
  later : s.later l.fn.out l.out;
  opened : (r : AllRecords l.archive.params l.archive.bits) → l.steps ≡ l.fn.steps + sum_by (chain_records r.records) (take l.page-index l.pages);
}
