use Rattle.std.proofs.Common.{arith}
use Rattle.wg_rank.proofs.Quotients.{cut_damped}
use Rattle.wg_rank.proofs.dividing.damped_with.Goals as goal

pub returns : goal.returns
returns c = cut_damped c.args.damping c.args.flow 281474976710656 1000 c.args.more (omega arith)
