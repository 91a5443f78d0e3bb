use Rattle.wg_greedy.proofs.ShortRecords.{chosen_short}
use Rattle.wg_greedy.proofs.laws.short_records.Goals as goal

pub returns : goal.returns
returns c = chosen_short
