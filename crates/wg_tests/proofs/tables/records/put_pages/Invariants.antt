use Rattle.std.proofs.Common.{◌≡◌}
use Rattle.wg_tests.proofs.tables.records.put_pages.Given as goal

-- as many pages were written as the loop has gone through
abbrev pub invariant-loop-page : goal.invariant-loop-page
invariant-loop-page g l = record {
  graph : l.encoder.graph ≡ l.graph;
  page : l.encoder.page ≡ l._page;
}
