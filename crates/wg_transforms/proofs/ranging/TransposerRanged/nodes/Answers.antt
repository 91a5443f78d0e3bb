use Rattle.std.proofs.Common.{arith}
use Rattle.wg_transpose.proofs.{Reversed.is_proper, Totals.as_many}
use Rattle.wg_transforms.proofs.ranging.TransposerRanged.nodes.Goals as goal

pub returns-clause-proper : goal.returns-clause-proper
returns-clause-proper g c = is_proper c.args.self.now.graph

pub returns-clause-few_arcs : goal.returns-clause-few_arcs
returns-clause-few_arcs g c = omega (arith, as_many c.args.self.now.graph c.nodes.ensures.proper, c.nodes.ensures.few)
