use Rattle.std.proofs.Common.{ap, subst}
use Rattle.wg_graph.specs.Digraph.{IsGraph}
use Rattle.wg_graph.specs.Listing.{Listing}
use Rattle.wg_stream.proofs.sweep.SweepLists.nodes.Goals as goal

pub returns-clause-proper : goal.returns-clause-proper
returns-clause-proper c = subst IsGraph (ap (λ (l : Listing). l.graph) c.self.view_is) c.self.invariant.proper
