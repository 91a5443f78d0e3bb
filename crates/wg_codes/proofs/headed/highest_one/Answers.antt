use Rattle.std.proofs.Common.{arith}
use Rattle.wg_codes.proofs.Highest.{highest_of_max}
use Rattle.wg_codes.proofs.headed.highest_one.Goals as goal

pub returns-clause-index : goal.returns-clause-index
returns-clause-index c = highest_of_max c.args.y c.max.result (omega arith) c.max.ensures
