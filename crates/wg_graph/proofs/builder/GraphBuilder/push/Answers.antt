use Rattle.std.proofs.Common.{arith}
use Rattle.wg_graph.proofs.Growth.{begun_count, cut_with_arc}
use Rattle.wg_graph.proofs.builder.GraphBuilder.push.Goals as goal

pub add-requires-clause-last : goal.add-requires-clause-last
add-requires-clause-last c = let f = rw (← c.self.view_is) at c.requires.not_past in omega (arith, f, begun_count c.self.inside.nodes c.self.inside.ends.items c.self.inside.all.items)

pub invariant_of-self-2 : goal.invariant_of-self-2
invariant_of-self-2 c = cut_with_arc c.self.inside.nodes c.self.inside.ends.items c.self.inside.all.items _ _ c.args.x c.args.v c.self.invariant c.in_ok-add.ensures.whole c.in_ok-add.ensures.ok (rw c.self.view_is c.requires)
