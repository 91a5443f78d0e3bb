use Rattle.std.proofs.Common.{arith, ◌+◌, ◌*◌, get_or, get_or-set_other}
use Rattle.std.proofs.lemmas.List.{length-set}
use Rattle.wg_rank.proofs.SideBySide.{within, high_count, low_at, high_at, low_added, high_added, ne_next}
use Rattle.wg_rank.proofs.inflows.add.Goals as goal

pub overflow_add-inflows : goal.overflow_add-inflows
overflow_add-inflows c = omega (arith, low_at c.args.inflows.now c.args.page c.requires.page, c.requires.low_room)

pub overflow_add-inflows-3 : goal.overflow_add-inflows-3
overflow_add-inflows-3 c =
    let e = get_or-set_other c.args.inflows.now (2 * c.args.page) (2 * c.args.page + 1) (get_or c.args.inflows.now (2 * c.args.page) 0 + c.args.below) 0 (ne_next (2 * c.args.page)) in
    omega (arith, e, high_at c.args.inflows.now c.args.page (omega (arith, high_count c.args.inflows.now)), c.requires.high_room)

pub returns-clause-low : goal.returns-clause-low
returns-clause-low c = low_added c.args.inflows.now c.args.page c.args.below _ c.requires.page

pub returns-clause-high : goal.returns-clause-high
returns-clause-high c = high_added c.args.inflows.now c.args.page _ c.args.above c.requires.page

pub bounds-inflows-at-3 : goal.bounds-inflows-at-3
bounds-inflows-at-3 c = omega (arith, within c.args.inflows.now, c.requires.page, length-set c.args.inflows.now (2 * c.args.page) (get_or c.args.inflows.now (2 * c.args.page) 0 + c.args.below))

pub bounds-inflows-at-4 : goal.bounds-inflows-at-4
bounds-inflows-at-4 c = omega (arith, within c.args.inflows.now, c.requires.page, length-set c.args.inflows.now (2 * c.args.page) (get_or c.args.inflows.now (2 * c.args.page) 0 + c.args.below))

pub bounds-inflows-at : goal.bounds-inflows-at
bounds-inflows-at c = omega (arith, within c.args.inflows.now, c.requires.page)

pub bounds-inflows-at-2 : goal.bounds-inflows-at-2
bounds-inflows-at-2 c = omega (arith, within c.args.inflows.now, c.requires.page)

pub overflow_mul-at : goal.overflow_mul-at
overflow_mul-at c = omega (arith, within c.args.inflows.now, c.requires.page)

pub overflow_add-inflows-2 : goal.overflow_add-inflows-2
overflow_add-inflows-2 c = omega (arith, within c.args.inflows.now, c.requires.page)

pub offset_bounds-inflows-at : goal.offset_bounds-inflows-at
offset_bounds-inflows-at c = omega (arith, within c.args.inflows.now, c.requires.page)

pub offset_bounds-inflows-at-2 : goal.offset_bounds-inflows-at-2
offset_bounds-inflows-at-2 c = omega (arith, within c.args.inflows.now, c.requires.page)
