use Rattle.wg_arcs.proofs.NumberLines.{numbers_are_those, faults_are_first, outcomes_are_one}
use Rattle.wg_arcs.proofs.NumbersBack.{numbers_back}
use Rattle.wg_arcs.proofs.laws.numbers_texts.Goals as goal

pub returns : goal.returns
returns c = record {
  numbers = numbers_are_those;
  fault = faults_are_first;
  one = outcomes_are_one;
  read_back = numbers_back;
}
