use Rattle.wg_laws.proofs.ConversionLemmas.{conversions_accepted}
use Rattle.wg_laws.proofs.laws.converted_archives.Goals as goal

pub returns : goal.returns
returns c = conversions_accepted
