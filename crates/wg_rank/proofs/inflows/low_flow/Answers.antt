use Rattle.std.proofs.Common.{arith}
use Rattle.wg_rank.proofs.SideBySide.{within, low_at}
use Rattle.wg_rank.proofs.inflows.low_flow.Goals as goal

pub bounds-inflows-v : goal.bounds-inflows-v
bounds-inflows-v c = omega (arith, within c.args.inflows.now, c.requires)

pub returns : goal.returns
returns c = low_at c.args.inflows.now c.args.v c.requires
