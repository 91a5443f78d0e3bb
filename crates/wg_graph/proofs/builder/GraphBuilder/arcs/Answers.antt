use Rattle.std.proofs.Common.{arith}
use Rattle.wg_graph.proofs.Growth.{all_count}
use Rattle.wg_graph.proofs.builder.GraphBuilder.arcs.Goals as goal

pub returns-clause-value : goal.returns-clause-value
returns-clause-value c = rw (← c.self.view_is) (omega (arith, all_count c.self.inside.nodes c.self.inside.ends.items c.self.inside.all.items c.self.invariant))

pub returns-clause-within : goal.returns-clause-within
returns-clause-within c = let few = c.self.invariant.prefix.few_arcs in omega (arith, all_count c.self.inside.nodes c.self.inside.ends.items c.self.inside.all.items c.self.invariant)
