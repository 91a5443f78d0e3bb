use Rattle.wg_laws.proofs.UnionLaws.{unions_accepted}
use Rattle.wg_laws.proofs.laws.joined_archives.Goals as goal

pub returns : goal.returns
returns c = unions_accepted
