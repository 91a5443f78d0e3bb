use Rattle.std.proofs.Common.{rules}
use Rattle.wg_codes.proofs.folding.fold.Goals as goal

pub returns-else-e-ge0 : goal.returns-else-e-ge0
returns-else-e-ge0 c = search rules
