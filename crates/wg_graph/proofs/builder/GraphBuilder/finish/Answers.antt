use Rattle.wg_graph.proofs.Growth.{few_begun}
use Rattle.wg_graph.proofs.builder.GraphBuilder.finish.Goals as goal

pub pad-requires-clause-more : goal.pad-requires-clause-more
pad-requires-clause-more c = few_begun _ _ _ c.self.invariant
