use Rattle.wg_laws.proofs.BuiltLemmas.{built_accepted, builds_accepted}
use Rattle.wg_laws.proofs.laws.built_archives.Goals as goal

pub returns : goal.returns
returns c = record { accepted = built_accepted; builds = builds_accepted }
