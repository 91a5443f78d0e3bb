use Rattle.wg_graph.proofs.Growth.{whole_is_graph}
use Rattle.wg_graph.proofs.graph.Graph.nodes.Goals as goal

pub returns-clause-proper : goal.returns-clause-proper
returns-clause-proper c = rw (← c.self.view_is) (whole_is_graph c.self.inside.ends.items c.self.inside.all.items c.self.invariant)
