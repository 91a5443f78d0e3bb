use Rattle.wg_greedy.proofs.Least.{chosen_candidate, chosen_shortest}
use Rattle.wg_greedy.proofs.laws.chosen_reference.Goals as goal

pub returns : goal.returns
returns c = record { candidate = chosen_candidate; shortest = chosen_shortest }
