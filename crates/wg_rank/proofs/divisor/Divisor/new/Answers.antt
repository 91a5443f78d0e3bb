use Rattle.std.proofs.Common.{refl}
use Rattle.wg_rank.proofs.divisor.Divisor.new.Goals as goal

pub invariant_of-result : goal.invariant_of-result
invariant_of-result c = record { some = c.requires; inverted = refl }
