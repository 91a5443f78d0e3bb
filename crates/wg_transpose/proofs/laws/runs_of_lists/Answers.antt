use Rattle.wg_transpose.specs.Listed.{numbers_are, stand_apart, are_one}
use Rattle.wg_transpose.proofs.laws.runs_of_lists.Goals as goal

pub returns : goal.returns
returns c = record { numbers = numbers_are; apart = stand_apart; one = are_one }
