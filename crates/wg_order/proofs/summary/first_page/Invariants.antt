use Rattle.std.proofs.Common.{◌<◌}
use Rattle.wg_order.proofs.Summaries.{IsFirst}
use Rattle.wg_order.proofs.summary.first_page.Given as goal

abbrev pub invariant-loop-page : goal.invariant-loop-page
invariant-loop-page l = record {
  below : l.first < l.page;
  first : IsFirst l.low l.high l.page l.first;
}
