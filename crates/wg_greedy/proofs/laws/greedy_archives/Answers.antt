use Rattle.wg_greedy.proofs.ProperRecord.{canonical_proper}
use Rattle.wg_greedy.proofs.Accepted.{greedy_accepted}
use Rattle.wg_greedy.proofs.laws.greedy_archives.Goals as goal

pub returns : goal.returns
returns c = greedy_accepted canonical_proper
