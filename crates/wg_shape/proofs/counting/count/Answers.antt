use Rattle.std.proofs.Common.{length, arith}
use Rattle.std.proofs.lemmas.Grind.{common_steps}
use Rattle.wg_transpose.proofs.Seen.{member_below}
use Rattle.wg_shape.proofs.Fewer.{count_fits}
use Rattle.wg_shape.proofs.Reached.{counted_more}
use Rattle.wg_shape.proofs.counting.count.Goals as goal
use Rattle.wg_shape.proofs.counting.count.Goals.{in-Some, in_default}

pub overflow_add-counts : goal.overflow_add-counts
overflow_add-counts g c =
    let i = c.loop-page.invariant in
    let l = rw (i.same, i.place) at c.in-Some.ensures.lent in
    let fits = count_fits (g.L.Lists.graph c.args.lists.now) c.nodes-pages.ensures.proper c.args.classes.now (length c.args.counts.now) c.requires.each c.requires.below in
    omega (arith, c.requires.few, fits c.loop-page.page c.in-Some.list.now c.loop-page.counts l.0 l.1 i.counted)

pub loop-page-preserved : goal.loop-page-preserved
loop-page-preserved g c = elim c.match-next_list.branch [
  | in-Some w ↦ grind (arith, common_steps, member_below, counted_more (g.L.Lists.graph c.args.lists.now) c.args.classes.now (length c.args.counts.now) c.loop-page.page)
  | in_default w ↦ grind (arith, common_steps)
]
