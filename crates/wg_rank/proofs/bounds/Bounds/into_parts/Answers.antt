use Rattle.std.proofs.Common.{arith, ◌<◌, length, ap}
use Rattle.wg_rank.specs.Intervals.{by_page}
use Rattle.wg_rank.proofs.Sums.{term_le_sum}
use Rattle.wg_rank.proofs.bounds.Bounds.into_parts.Goals as goal

pub returns-clause-within : goal.returns-clause-within
returns-clause-within c = λ v lt.
    let lows = c.self.inside.low.items in
    let w : v < length lows = omega (arith, lt, ap (λ b. length b.low) c.self.view_is) in (
      omega (arith, term_le_sum (length lows) (by_page lows) v w, c.self.invariant.low_total, ap (λ b. by_page b.low v) c.self.view_is),
      omega (arith, c.self.invariant.high_units v 0 (omega (arith, w, c.self.invariant.high_pages)), ap (λ b. by_page b.high v) c.self.view_is),
    )
