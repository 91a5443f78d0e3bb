use Rattle.std.proofs.Common.{sym}
use Rattle.wg_codes.proofs.Lengths.{length-gamma}
use Rattle.wg_codes.proofs.gamma.length.Goals as goal

pub returns-clause-length : goal.returns-clause-length
returns-clause-length c = sym (length-gamma c.args.v c.highest_one.result c.highest_one.ensures.index)
