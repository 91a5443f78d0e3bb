use Rattle.std.proofs.Common.{refl}
use Rattle.wg_params.proofs.params.is_residual_code.Goals as goal

pub returns-in-Zeta : goal.returns-in-Zeta
returns-in-Zeta c = rw c.in-Zeta.is refl
