use Rattle.wg_random.proofs.SpotAgree.{agrees}
use Rattle.wg_random.proofs.laws.spots_agree.Goals as goal

pub returns : goal.returns
returns c = agrees
