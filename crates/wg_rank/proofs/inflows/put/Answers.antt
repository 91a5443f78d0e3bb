use Rattle.std.proofs.Common.{arith, ◌*◌}
use Rattle.std.proofs.lemmas.List.{length-set}
use Rattle.wg_rank.proofs.SideBySide.{within, low_replaced, high_replaced}
use Rattle.wg_rank.proofs.inflows.put.Goals as goal

pub bounds-inflows-v : goal.bounds-inflows-v
bounds-inflows-v c = omega (arith, within c.args.inflows.now, c.requires)

pub bounds-inflows-v-2 : goal.bounds-inflows-v-2
bounds-inflows-v-2 c = omega (arith, within c.args.inflows.now, c.requires, length-set c.args.inflows.now (2 * c.args.v) c.args.below)

pub returns-clause-low : goal.returns-clause-low
returns-clause-low c = low_replaced c.args.inflows.now c.args.v c.args.below c.args.above c.requires

pub returns-clause-high : goal.returns-clause-high
returns-clause-high c = high_replaced c.args.inflows.now c.args.v c.args.below c.args.above c.requires
