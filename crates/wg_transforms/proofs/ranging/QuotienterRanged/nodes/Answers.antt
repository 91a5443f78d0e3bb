use Rattle.wg_shape.proofs.Quotients.{is_proper}
use Rattle.wg_transforms.proofs.ranging.QuotienterRanged.nodes.Goals as goal

pub returns-clause-proper : goal.returns-clause-proper
returns-clause-proper g c = let p = c.args.self.now.pages in is_proper p.graph p.classes p.count
