use Rattle.std.proofs.Common.{length, sym, ap, subst, ◌∙◌}
use Rattle.wg_graph.specs.Digraph.{Digraph, IsGraph}
use Rattle.wg_transpose.specs.Transposed.{predecessors}
use Rattle.wg_transpose.specs.SoFar.{ArePlaced}
use Rattle.wg_transpose.proofs.Whole.{room_of_all, from_first, is_whole, is_transposed}
use Rattle.wg_transpose.proofs.transposing.fill_all.Goals as goal
use Rattle.wg_transpose.proofs.transposing.fill_all.Goals.{After-fill}

pub fill-requires-clause-room : goal.fill-requires-clause-room
fill-requires-clause-room c =
    let same = c.count.ensures.graph ∙ c.new.ensures.graph in
    let pages = c.count.ensures.counted.pages in
    room_of_all c.args.graph.now c.count.new.lists.graph same (subst IsGraph (sym c.count.ensures.graph) c.count.ensures.proper) (length c.count.new.counts) (length c.args.all.now) (pages ∙ ap (λ (d : Digraph). d.nodes) (sym c.count.ensures.graph)) c.requires.all

placed : (c : After-fill) → ArePlaced c.args.graph.now (predecessors c.args.graph.now) c.fill.new.ends c.fill.new.all
placed c =
    let same = c.count.ensures.graph ∙ c.new.ensures.graph in
    from_first c.args.graph.now c.count.new.lists.graph same (length c.count.new.counts) c.fill.new.ends c.fill.new.all (c.count.ensures.counted.pages ∙ ap (λ (d : Digraph). d.nodes) (sym c.count.ensures.graph)) c.fill.ensures.placed

pub returns-clause-whole : goal.returns-clause-whole
returns-clause-whole c = is_whole c.args.graph.now (subst IsGraph c.new.ensures.graph c.count.ensures.proper) c.fill.new.ends c.fill.new.all (placed (goal.at.returns-clause-whole c).After-fill) c.requires.few_pages c.requires.few_arcs

pub returns-clause-exact : goal.returns-clause-exact
returns-clause-exact c = is_transposed c.args.graph.now c.fill.new.ends c.fill.new.all (placed (goal.at.returns-clause-exact c).After-fill)
