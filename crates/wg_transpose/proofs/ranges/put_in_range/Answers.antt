use Rattle.std.proofs.Common.{refl}
use Rattle.wg_transpose.proofs.ranges.put_in_range.Goals as goal

pub returns-clause-all : goal.returns-clause-all
returns-clause-all c = λ low high. refl
