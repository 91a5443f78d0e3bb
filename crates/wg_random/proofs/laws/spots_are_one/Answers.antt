use Rattle.wg_stream.proofs.SpotOne.{chain_one}
use Rattle.wg_stream.proofs.SpotSome.{page_some}
use Rattle.wg_random.proofs.laws.spots_are_one.Goals as goal

pub returns-clause-one : goal.returns-clause-one
returns-clause-one c = λ p bits offsets x v w limits h k. chain_one p limits bits offsets x h.0 k.0 v w h.1 k.1

pub returns-clause-some : goal.returns-clause-some
returns-clause-some c = λ p bits offsets x limits. page_some p limits bits offsets x
