use Rattle.wg_ascii.proofs.Some.{texts_are_some}
use Rattle.wg_ascii.proofs.Unique.{texts_are_one}
use Rattle.wg_ascii.proofs.laws.one_graph.Goals as goal

pub returns : goal.returns
returns c = record { one = texts_are_one; some = texts_are_some }
