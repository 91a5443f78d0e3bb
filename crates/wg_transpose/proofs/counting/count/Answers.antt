use Rattle.std.proofs.Common.{arith}
use Rattle.std.proofs.lemmas.Grind.{common_steps}
use Rattle.wg_transpose.proofs.Steps.{few_counts, counted_more}
use Rattle.wg_transpose.proofs.counting.count.Goals as goal
use Rattle.wg_transpose.proofs.counting.count.Goals.{in-Some, in_default}

pub count_arcs-requires-clause-room : goal.count_arcs-requires-clause-room
count_arcs-requires-clause-room g c =
    few_counts (g.L.Lists.graph c.args.lists.now) c.loop-page._page c.loop-page.counts (omega (arith, c.in-Some.ensures.lent)) c.loop-page.invariant.counted

pub loop-page-preserved : goal.loop-page-preserved
loop-page-preserved g c = elim c.match-next_list.branch [
  | in-Some w ↦
      let more = counted_more (g.L.Lists.graph c.args.lists.now) c.loop-page._page w.in-Some.list.now c.loop-page.counts w.count_arcs.new.counts in
      grind (arith, common_steps, more)
  | in_default w ↦ grind (arith, common_steps)
]
