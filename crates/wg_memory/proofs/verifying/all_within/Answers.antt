use Rattle.std.proofs.Common.{length, arith}
use Rattle.wg_rank.specs.Intervals.{by_page}
use Rattle.wg_rank.proofs.Sums.{term_le_sum}
use Rattle.wg_memory.proofs.verifying.all_within.Goals as goal

pub returns-then-bound-gt-UNITS-clause-no : goal.returns-then-bound-gt-UNITS-clause-no
returns-then-bound-gt-UNITS-clause-no c = λ _.
    let one = term_le_sum (length c.args.low.now) (by_page c.args.low.now) c.loop-bound.bound-index (omega (arith, c.loop-bound-test.true)) in
    omega (arith, one, c.if-bound-gt-UNITS.true)
