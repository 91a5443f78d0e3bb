use Rattle.std.proofs.Common.{sym, ap, subst, ◌∙◌, arith}
use Rattle.wg_graph.specs.Arcs.{has_arc}
use Rattle.wg_graph.proofs.Sets.{below-where}
use Rattle.wg_transpose.specs.Transposed.{predecessors}
use Rattle.wg_transpose.proofs.Made.{in_order, list_there, preds_ascend}
use Rattle.wg_transpose.proofs.in_arcs.InArcs.of_page.Goals as goal

pub offset_bounds-deref-begin : goal.offset_bounds-deref-begin
offset_bounds-deref-begin g c =
    let e = c.span-begin.ensures in
    let t = in_order c.self.invariant c.self.view_is c.args.v c.requires c.deref.ensures.value e.begin e.end in
    omega (arith, t.0, t.1, c.deref-2.ensures.len)

pub slice_bounds-result-end : goal.slice_bounds-result-end
slice_bounds-result-end g c =
    let e = c.span-begin.ensures in
    let t = in_order c.self.invariant c.self.view_is c.args.v c.requires c.deref.ensures.value e.begin e.end in
    omega (arith, t.0, t.1, c.deref-2.ensures.len)

pub returns-clause-value : goal.returns-clause-value
returns-clause-value g c =
    let e = c.span-begin.ensures in
    rw c.deref-2.ensures.value (list_there c.self.invariant c.self.view_is c.args.v c.requires c.deref.ensures.value e.begin e.end)

pub returns-clause-numbers : goal.returns-clause-numbers
returns-clause-numbers g c =
    let graph = c.args.self.now in
    ap g.T.InArc.pages (returns-clause-value g c) ∙ g.met.T.InArc.gives_back (predecessors graph c.args.v) (preds_ascend graph c.args.v)

pub returns-clause-proper : goal.returns-clause-proper
returns-clause-proper g c =
    let graph = c.args.self.now in
    let below = below-where (λ u. has_arc graph u c.args.v) 0 graph.nodes graph.nodes (omega arith) in
    subst (g.T.InArc.proper graph.nodes) (sym (returns-clause-value g c))
    (g.met.T.InArc.are_proper graph.nodes (predecessors graph c.args.v) (preds_ascend graph c.args.v) below)
