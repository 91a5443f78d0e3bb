use Rattle.std.proofs.Common.{suc, subst, arith}
use Rattle.wg_graph.specs.Ascending.{Ascends}
use Rattle.wg_graph.proofs.Sets.{ascends_more}
use Rattle.wg_shape.proofs.coming.ListWalkComing.next.Goals as goal

pub invariant_of-self : goal.invariant_of-self
invariant_of-self c =
    let up = subst (Ascends 0) c.in-Some.ensures.cases.0 c.self.invariant in
    ascends_more 0 (suc c.in-Some.first.now) c.in-Some.rest.now (omega arith) up.1
