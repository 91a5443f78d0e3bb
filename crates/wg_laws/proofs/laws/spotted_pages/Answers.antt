use Rattle.wg_laws.proofs.SpottedLemmas.{spots_shown}
use Rattle.wg_laws.proofs.laws.spotted_pages.Goals as goal

pub returns : goal.returns
returns c = spots_shown
