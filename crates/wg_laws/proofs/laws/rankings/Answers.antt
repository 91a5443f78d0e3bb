use Rattle.wg_outcomes.proofs.RankLemmas.{proven}
use Rattle.wg_laws.proofs.RoundsLemmas.{more_narrow}
use Rattle.wg_laws.proofs.laws.rankings.Goals as goal

pub returns : goal.returns
returns c = record { proven = proven; narrower = more_narrow }
