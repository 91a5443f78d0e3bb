use Rattle.std.proofs.Common.{◌<◌, ◌∙◌, sym, arith}
use Rattle.wg_transpose.specs.Transposed.{transposed}
use Rattle.wg_transpose.proofs.{Reversed.is_proper, Reversed.successors_are, Totals.as_many}
use Rattle.wg_transforms.specs.Encoding.{IsNextList}
use Rattle.wg_transforms.proofs.ranging.TransposerRanged.add.Goals as goal
use Rattle.wg_transforms.proofs.ranging.TransposerRanged.add.Goals.{After-list-list}
use Rattle.wg_transforms.proofs.ranging.TransposerRanged.add.Given.{Over}

next : (g : Over) (c : After-list-list g) → IsNextList (transposed c.args.self.now.graph) c.args.encoder c.list-list.result.now
next g c =
    let graph = c.args.self.now.graph in
    let there : c.args.encoder.page < graph.nodes = omega (arith, c.requires.to, c.to.ensures.within) in
    record {
      proper = is_proper graph;
      few = omega (arith, as_many graph c.nodes.ensures.proper, c.nodes.ensures.few);
      so_far = c.requires.so_far;
      page = there;
      is = rw c.page.ensures.value at c.list-list.ensures.value ∙ sym (successors_are graph c.args.encoder.page there);
    }

pub add_list-requires : goal.add_list-requires
add_list-requires g c = (transposed c.args.self.now.graph, next g (goal.at.add_list-requires g c).After-list-list)

pub returns-clause-so_far : goal.returns-clause-so_far
returns-clause-so_far g c = c.add_list.ensures.so_far (transposed c.args.self.now.graph) (next g (goal.at.returns-clause-so_far g c).After-list-list)
