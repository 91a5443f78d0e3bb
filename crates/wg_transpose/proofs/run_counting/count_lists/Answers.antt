use Rattle.std.proofs.Common.{arith}
use Rattle.std.proofs.lemmas.Grind.{common_steps}
use Rattle.wg_transpose.proofs.Steps.{few_counts, counted_more}
use Rattle.wg_transpose.proofs.RunWhole.{degrees_more, arcs_more}
use Rattle.wg_transpose.proofs.run_counting.count_lists.Goals as goal
use Rattle.wg_transpose.proofs.run_counting.count_lists.Goals.{in-Some, in_default}

pub count_arcs-requires-clause-room : goal.count_arcs-requires-clause-room
count_arcs-requires-clause-room g c =
    few_counts (g.L.Lists.graph c.args.lists.now) c.loop-page.page c.loop-page.links (omega (arith, c.in-Some.ensures.lent)) c.loop-page.invariant.linked

pub loop-page-preserved : goal.loop-page-preserved
loop-page-preserved g c =
    let graph = g.L.Lists.graph c.args.lists.now in
    let proper = c.nodes-pages.ensures.proper in
    let page = c.loop-page.page in
    elim c.match-next_list.branch [
      | in-Some w ↦
          let linked = counted_more graph page w.in-Some.list.now c.loop-page.links w.count_arcs.new.counts in
          grind (arith, common_steps, linked, degrees_more graph proper page, arcs_more graph proper page)
      | in_default w ↦ grind (arith, common_steps)
    ]
