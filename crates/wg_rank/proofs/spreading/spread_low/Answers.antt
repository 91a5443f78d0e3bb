use Rattle.std.proofs.Common.{arith, length}
use Rattle.wg_rank.proofs.Spread.{below_at, spread_more, spread_room}
use Rattle.wg_rank.proofs.spreading.spread_low.Goals as goal

pub loop-page-preserved : goal.loop-page-preserved
loop-page-preserved c =
    spread_more c.args.list.now c.loop-page.page-index c.args.share c.args.sums.now c.loop-page.sums c.requires.ascending (omega arith) (omega arith) c.loop-page.invariant

pub bounds-sums-page : goal.bounds-sums-page
bounds-sums-page c = omega (arith, below_at (length c.args.sums.now) c.loop-page.page-index c.args.list.now c.requires.below (omega arith))

pub bounds-sums-page-in-loop-page : goal.bounds-sums-page-in-loop-page
bounds-sums-page-in-loop-page c = omega (arith, below_at (length c.args.sums.now) c.loop-page.page-index c.args.list.now c.requires.below (omega arith))

pub overflow_add-sums : goal.overflow_add-sums
overflow_add-sums c =
    let w = below_at (length c.args.sums.now) c.loop-page.page-index c.args.list.now c.requires.below (omega arith) in
    omega (arith, spread_room c.args.list.now c.loop-page.page-index c.args.share c.args.sums.now c.loop-page.sums (omega arith) w c.loop-page.invariant, c.requires.room _ 0 w)
