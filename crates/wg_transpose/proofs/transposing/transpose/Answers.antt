use Rattle.std.proofs.Common.{◌∙◌}
use Rattle.std.proofs.lemmas.List.{with_items_is}
use Rattle.wg_transpose.proofs.Reversed.{are_reversed, is_proper}
use Rattle.wg_transpose.proofs.Totals.{as_many}
use Rattle.wg_transpose.proofs.transposing.transpose.Goals as goal

pub returns-clause-exact : goal.returns-clause-exact
returns-clause-exact c =
    let ends = with_items_is c.in_ok-ends.ends c.fill_all.new.ends (c.fill_all.auto.ends ∙ c.deref_mut.ensures.len) in
    let all = with_items_is c.in_ok-all.all c.fill_all.new.all (c.fill_all.auto.all ∙ c.deref_mut-2.ensures.len) in
    c.from_parts.ensures ∙ rw (ends, all) c.fill_all.ensures.exact

pub returns-clause-reversed : goal.returns-clause-reversed
returns-clause-reversed c = rw (returns-clause-exact c) (are_reversed c.args.graph.now c.nodes.ensures.proper)

pub returns-clause-proper : goal.returns-clause-proper
returns-clause-proper c = rw (returns-clause-exact c) (is_proper c.args.graph.now)

pub returns-clause-arcs : goal.returns-clause-arcs
returns-clause-arcs c = rw (returns-clause-exact c) (as_many c.args.graph.now c.nodes.ensures.proper)
