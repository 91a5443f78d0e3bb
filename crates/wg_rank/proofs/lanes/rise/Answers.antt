use Rattle.std.proofs.Common.{arith}
use Rattle.wg_rank.proofs.LaneSums.{low_rise, high_rise}
use Rattle.wg_rank.proofs.lanes.rise.Goals as goal

pub returns-clause-below : goal.returns-clause-below
returns-clause-below c = λ n low high h.
    omega (arith, c.from_lanes.ensures.below, low_rise n low high c.args.sums.now h c.args.from c.args.to c.requires.ordered c.requires.within (omega arith))

pub returns-clause-above : goal.returns-clause-above
returns-clause-above c = λ n low high h.
    omega (arith, c.from_lanes.ensures.above, high_rise n low high c.args.sums.now h c.args.from c.args.to c.requires.ordered c.requires.within (omega arith))
