use Rattle.wg_readings.proofs.ReadingsLaws.{the_readings, readings_one}
use Rattle.wg_laws.proofs.OutcomeLemmas.{outcome_same}
use Rattle.wg_laws.proofs.laws.readings.Goals as goal

pub returns : goal.returns
returns c = record {
  some = the_readings;
  one = readings_one;
  outcome = λ r q. outcome_same r q (readings_one r q);
}
