use Rattle.std.proofs.Common.{◌≡◌, ◌∙◌, List, ℕ, ap, arith}
use Rattle.wg_graph.specs.Digraph.{Digraph, successors}
use Rattle.wg_shape.specs.Classes.{whole}
use Rattle.wg_shape.proofs.Quotients.{is_proper}
use Rattle.wg_transforms.specs.Encoding.{IsNextList}
use Rattle.wg_transforms.proofs.ranging.QuotienterRanged.add.Goals as goal
use Rattle.wg_transforms.proofs.ranging.QuotienterRanged.add.Goals.{After-deref}
use Rattle.wg_transforms.proofs.ranging.QuotienterRanged.add.Given.{Over}

-- the list of a class, under another name of it
list_at : {list : List ℕ} (g : Digraph) (x y : ℕ) → list ≡ successors g x → x ≡ y → list ≡ successors g y
list_at g x y is same = is ∙ ap (successors g) same

next : (g : Over) (c : After-deref g) → IsNextList (whole c.args.self.now.pages) c.args.encoder c.deref.result.now
next g c =
    let p = c.args.self.now.pages in
    record {
      proper = is_proper p.graph p.classes p.count;
      few = c.nodes.ensures.few;
      so_far = c.requires.so_far;
      page = omega (arith, c.requires.to, c.to.ensures.within);
      is = c.deref.ensures.value ∙ list_at (whole p) _ _ c.in_ok-list.ensures.value (omega arith);
    }

pub add_list-requires : goal.add_list-requires
add_list-requires g c = (whole c.args.self.now.pages, next g (goal.at.add_list-requires g c).After-deref)

pub returns-clause-so_far : goal.returns-clause-so_far
returns-clause-so_far g c = c.add_list.ensures.so_far (whole c.args.self.now.pages) (next g (goal.at.returns-clause-so_far g c).After-deref)
