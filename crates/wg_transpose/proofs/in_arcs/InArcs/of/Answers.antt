use Rattle.std.proofs.Common.{◌∙◌}
use Rattle.std.proofs.lemmas.List.{with_items_is}
use Rattle.wg_transpose.proofs.Made.{arcs_held, seen_as, held_as_seen}
use Rattle.wg_transpose.proofs.in_arcs.InArcs.of.Goals as goal

pub invariant_of-result : goal.invariant_of-result
invariant_of-result g c =
    let t = g.T.InArc in
    let ends = with_items_is c.args.ends c.fill.new.ends (c.fill.auto.ends ∙ c.deref_mut.ensures.len) in
    let all = with_items_is c.in_ok-all.all c.fill.new.all (c.fill.auto.all ∙ c.deref_mut-3.ensures.len) in
    let h = arcs_held t.items t.none _ _ _ _ _ _ _ _ _ c.requires.ready c.requires.degrees ends all c.fill.ensures.filled in
    held_as_seen t.items t.pages t.none g.met.T.InArc.gives_back _ _ _ _ h

pub returns : goal.returns
returns g c =
    let t = g.T.InArc in
    let ends = with_items_is c.args.ends c.fill.new.ends (c.fill.auto.ends ∙ c.deref_mut.ensures.len) in
    let all = with_items_is c.in_ok-all.all c.fill.new.all (c.fill.auto.all ∙ c.deref_mut-3.ensures.len) in
    let h = arcs_held t.items t.none _ _ _ _ _ _ _ _ _ c.requires.ready c.requires.degrees ends all c.fill.ensures.filled in
    record {
      graph = c.fill.ensures.graph;
      made = seen_as t.items t.pages t.none g.met.T.InArc.gives_back _ _ _ _ h;
    }
