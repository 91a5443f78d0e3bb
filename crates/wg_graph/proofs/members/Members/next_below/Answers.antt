use Rattle.std.proofs.Common.{rules}
use Rattle.wg_graph.proofs.Asked.{ascends-rest}
use Rattle.wg_graph.proofs.members.Members.next_below.Goals as goal

pub invariant_of-self : goal.invariant_of-self
invariant_of-self c = ascends-rest c.in-Some.first.now c.self.inside.left.now c.in-Some.rest.now (search rules) c.self.invariant
