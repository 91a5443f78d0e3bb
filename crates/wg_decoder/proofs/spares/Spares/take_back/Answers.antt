use Rattle.std.proofs.Common.{rules}
use Rattle.wg_decoder.proofs.spares.Spares.take_back.Goals as goal

pub returns : goal.returns
returns c = search rules
