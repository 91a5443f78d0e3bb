use Rattle.std.proofs.Common.{sym, subst, arith}
use Rattle.wg_graph.specs.Ascending.{Below}
use Rattle.wg_vectors.specs.Generated.{Drafted}
use Rattle.wg_vectors.proofs.Loops.{is_drafted}
use Rattle.wg_vectors.proofs.Steps.{drafted_fits}
use Rattle.wg_vectors.proofs.drafting.Draft.draw_list.Goals as goal

pub returns-clause-after : goal.returns-clause-after
returns-clause-after c =
    is_drafted c.args.before.now.nodes c.nodes-pages.result c.args.self.now.state c.args.before.now.lists c.begin.new.self c.scatter.new.self c.extend.new.self
    c.nodes-pages.ensures.value c.begin.ensures.after c.scatter.ensures.after c.extend.ensures.after

pub returns-clause-below : goal.returns-clause-below
returns-clause-below c =
    let whole = is_drafted c.args.before.now.nodes c.nodes-pages.result c.args.self.now.state c.args.before.now.lists c.begin.new.self c.scatter.new.self c.extend.new.self
    c.nodes-pages.ensures.value c.begin.ensures.after c.scatter.ensures.after c.extend.ensures.after in
    let fits = drafted_fits c.args.before.now.nodes c.args.before.now.lists c.args.self.now.state (omega arith) c.nodes-pages.ensures.prefix.below in
    subst (λ (d : Drafted). Below c.args.before.now.nodes d.list) (sym whole) fits.below
