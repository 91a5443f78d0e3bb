use Rattle.std.proofs.Common.{◌≡◌, ◌<◌, ℕ, drop, find, nat_le, slice_index_or}
use Rattle.wg_readings.proofs.archive.find_pages.Given as goal

-- all pages so far are there, and the first that is not is among the others
abbrev pub invariant-loop-page : goal.invariant-loop-page
invariant-loop-page l = record {
  all : (k : ℕ) (d : ℕ) → k < l.page-index → slice_index_or l.pages k d < l.params.nodes;
  left : find (λ page. nat_le l.params.nodes page) l.pages ≡ find (λ page. nat_le l.params.nodes page) (drop l.page-index l.pages);
}
