use Rattle.wg_laws.proofs.QuotientLemmas.{quotients_accepted}
use Rattle.wg_laws.proofs.laws.quotients.Goals as goal

pub returns : goal.returns
returns c = quotients_accepted
