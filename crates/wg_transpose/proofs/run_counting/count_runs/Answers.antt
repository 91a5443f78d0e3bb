use Rattle.std.proofs.Common.{◌<◌, ◌+◌, length, take, get_or, arith}
use Rattle.wg_transpose.proofs.Seen.{with_page}
use Rattle.wg_transpose.proofs.Steps.{page_more, target_below}
use Rattle.wg_transpose.specs.declared.run.TheConstants.{MOST_PAGES_IN_RUNS}
use Rattle.wg_transpose.specs.Held.{runs_below}
use Rattle.wg_transpose.proofs.RunSteps.{counted_new, counted_longer, runs_with, runs_done, same_counted, target_counted}
use Rattle.wg_transpose.proofs.run_counting.count_runs.Goals as goal
use Rattle.wg_transpose.proofs.run_counting.count_runs.Goals.{then-reach-place, else-reach-place}

pub overflow_add-counts : goal.overflow_add-counts
overflow_add-counts c =
    let t = target_counted c.args.page c.loop-target.target-index c.args.list.now (omega arith) c.args.counts.now c.args.reach.now c.loop-target.counts c.loop-target.reach c.requires.counted c.loop-target.invariant in
    omega (arith, t.0, t.1, c.requires.few)

pub loop-target-preserved : goal.loop-target-preserved
loop-target-preserved c = λ g is h0.
    let h = c.loop-target.invariant g is h0 in
    let k = c.args.page in
    let j = c.loop-target.target-index in
    let list = c.args.list.now in
    let lt : j < length list = omega arith in
    let page = is.page in
    let small : k < MOST_PAGES_IN_RUNS = omega (arith, page, h.counted.pages, c.requires.few) in
    let b = with_page g k (take j list) in
    let d = with_page g k (take (j + 1) list) in
    elim c.if-reach-place.branch [
      | then-reach-place w ↦ rw w.counts-is (counted_new b d (get_or list j 0) k (page_more g k j list is lt) g.nodes (target_below g k j list is lt) small c.loop-target.counts c.loop-target.reach h w.if-reach-place.true)
      | else-reach-place w ↦ rw w.counts-is (counted_longer b d (get_or list j 0) k (page_more g k j list is lt) g.nodes (target_below g k j list is lt) small c.loop-target.counts c.loop-target.reach h w.if-reach-place.false)
    ]

pub returns : goal.returns
returns c = record {
  counted = λ g is h0.
      let k = c.args.page in
      let j = c.loop-target.target-index in
      let list = c.args.list.now in
      same_counted g.nodes (runs_with g k j list is) (runs_below g (k + 1)) c.loop-target.counts c.loop-target.reach (runs_done g k j list is (omega arith)) (c.loop-target.invariant g is h0);
}
