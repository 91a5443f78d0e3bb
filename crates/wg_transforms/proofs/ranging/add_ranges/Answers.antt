use Rattle.std.proofs.Common.{ap, subst, arith}
use Rattle.wg_graph.specs.Digraph.{Digraph, IsGraph}
use Rattle.wg_encoder.specs.ArchiveInMemory.{HasEncoded}
use Rattle.wg_transpose.proofs.InOrder.{all_lists}
use Rattle.wg_transforms.proofs.ranging.add_ranges.Goals as goal

pub returns-clause-encoded : goal.returns-clause-encoded
returns-clause-encoded g c =
    let i = c.all.invariant in
    let graph = g.R.Ranged.graph c.args.ranges.now in
    let ok = subst (λ (d : Digraph). IsGraph d) i.same c.nodes.ensures.proper in
    subst (HasEncoded c.all.encoder) (all_lists graph ok c.all.encoder.page (omega (arith, i.page, ap (λ (d : Digraph). d.nodes) i.same))) i.so_far.encoded
