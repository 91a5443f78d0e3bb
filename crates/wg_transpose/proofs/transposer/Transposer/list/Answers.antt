use Rattle.std.proofs.Common.{arith}
use Rattle.wg_graph.proofs.Sets.{ascends-where, below-where}
use Rattle.wg_transpose.proofs.transposer.Transposer.list.Goals as goal

pub returns-clause-ascends : goal.returns-clause-ascends
returns-clause-ascends g c = grind (arith, ascends-where)

pub returns-clause-below : goal.returns-clause-below
returns-clause-below g c = grind (arith, below-where)
