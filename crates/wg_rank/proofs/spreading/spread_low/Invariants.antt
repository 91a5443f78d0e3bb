use Rattle.std.proofs.Common.{drop}
use Rattle.wg_rank.proofs.Spread.{IsSpread}
use Rattle.wg_rank.proofs.spreading.spread_low.Given as goal

abbrev pub invariant-loop-page : goal.invariant-loop-page
invariant-loop-page l = IsSpread l.list (drop l.page-index l.list) l.share l.initial.sums l.sums
