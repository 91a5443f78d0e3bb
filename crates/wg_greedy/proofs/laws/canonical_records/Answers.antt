use Rattle.wg_greedy.proofs.ProperRecord.{canonical_proper}
use Rattle.wg_greedy.proofs.laws.canonical_records.Goals as goal

pub returns : goal.returns
returns c = canonical_proper
