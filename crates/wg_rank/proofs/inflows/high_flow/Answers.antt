use Rattle.std.proofs.Common.{arith}
use Rattle.wg_rank.proofs.SideBySide.{within, high_count, high_at}
use Rattle.wg_rank.proofs.inflows.high_flow.Goals as goal

pub bounds-inflows-v : goal.bounds-inflows-v
bounds-inflows-v c = omega (arith, within c.args.inflows.now, high_count c.args.inflows.now, c.requires)

pub returns : goal.returns
returns c = high_at c.args.inflows.now c.args.v c.requires
