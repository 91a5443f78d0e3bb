use Rattle.std.proofs.Common.{refl, arith}
use Rattle.wg_rank.proofs.certificate.Certificate.new.Goals as goal

pub returns : goal.returns
returns c = (omega (arith, rw c.deref.ensures.value at c.total.ensures), refl)
