use Rattle.wg_rank.proofs.CertificateLines.{claims_are_those, faults_are_first, outcomes_are_one}
use Rattle.wg_rank.proofs.laws.certificate_texts.Goals as goal

pub returns : goal.returns
returns c = record { claim = claims_are_those; fault = faults_are_first; one = outcomes_are_one }
