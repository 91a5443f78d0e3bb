use Rattle.std.proofs.Common.{refl}
use Rattle.std.proofs.lemmas.Bool.{eqb-true}
use Rattle.wg_num.proofs.decimal.has_zero_in_front.Goals as goal

pub returns-then-text-gt1 : goal.returns-then-text-gt1
returns-then-text-gt1 c = (λ t. (eqb-true _ _ t, c.if-text-gt1.true), λ h. rw h.0 refl)
