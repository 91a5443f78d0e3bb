use Rattle.std.proofs.Common.{refl, sym}
use Rattle.wg_properties.proofs.judge.judge_class.Goals as goal

pub returns-in-None : goal.returns-in-None
returns-in-None c = rw (sym c.get.ensures, c.in-None.is) refl
