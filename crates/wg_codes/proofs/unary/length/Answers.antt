use Rattle.std.proofs.Common.{sym}
use Rattle.wg_codes.proofs.UnaryWords.{length-unary}
use Rattle.wg_codes.proofs.unary.length.Goals as goal

pub returns : goal.returns
returns c = sym (length-unary c.args.v)
