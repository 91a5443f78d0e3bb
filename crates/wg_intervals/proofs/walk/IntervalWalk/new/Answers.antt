use Rattle.std.proofs.Common.{ℕ, ap, sym, ◌∙◌}
use Rattle.std.specs.Prelude.{None}
use Rattle.wg_bits.specs.Bits.{rest}
use Rattle.wg_intervals.specs.Stored.{numbers_at}
use Rattle.wg_intervals.proofs.Order.{inside_ascend}
use Rattle.wg_intervals.proofs.Walks.{begins_with, numbers_inside_are}
use Rattle.wg_intervals.proofs.walk.IntervalWalk.new.Goals as goal

pub returns-clause-coming : goal.returns-clause-coming
returns-clause-coming c lefts lengths count stand =
    begins_with c.none.result _ _ c.none.ensures.1 (ap (λ (n : ℕ). numbers_at c.args.page c.args.interval None n (rest c.args.cursor)) (sym count)
    ∙ numbers_inside_are c.args.page c.args.interval None lefts lengths _ stand)

pub returns-clause-ascends : goal.returns-clause-ascends
returns-clause-ascends c lefts lengths stand = inside_ascend c.args.page c.args.interval lefts lengths _ stand
