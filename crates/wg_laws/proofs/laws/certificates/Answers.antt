use Rattle.wg_laws.proofs.{VerifiedLemmas.accepted_proven, WrittenLemmas.written_accepted}
use Rattle.wg_laws.proofs.laws.certificates.Goals as goal

pub returns-clause-proven : goal.returns-clause-proven
returns-clause-proven c = λ r held job out old is. accepted_proven r held job out old is

pub returns-clause-accepted : goal.returns-clause-accepted
returns-clause-accepted c = λ r held after job next text out few damped alike is still there. written_accepted r held after still job next text out few damped alike is there
