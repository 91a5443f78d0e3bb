use Rattle.std.proofs.Common.{rules, ◌≤◌, arith, length, sym}
use Rattle.wg_graph.proofs.Ends.{end_le, piece_at, start_le}
use Rattle.wg_memory.proofs.range.list_at.Goals as goal

pub slice_bounds-result-count : goal.slice_bounds-result-count
slice_bounds-result-count c = omega (arith, c.start_at-start.ensures, start_le 0 _ c.args.ends.now c.args.index c.requires.whole c.requires.index)

pub offset_bounds-lists-start : goal.offset_bounds-lists-start
offset_bounds-lists-start c =
    let start = start_le 0 _ c.args.ends.now c.args.index c.requires.whole c.requires.index in
    let within : c.start_at-start.result ≤ length c.args.lists.now = omega (arith, c.start_at-start.ensures, start, end_le 0 _ c.args.ends.now c.args.index c.requires.whole c.requires.index) in
    search rules

pub slice_bounds-result-start : goal.slice_bounds-result-start
slice_bounds-result-start c =
    omega (arith, c.start_at-start.ensures, start_le 0 _ c.args.ends.now c.args.index c.requires.whole c.requires.index)

pub slice_bounds-result-end : goal.slice_bounds-result-end
slice_bounds-result-end c = omega (arith, end_le 0 _ c.args.ends.now c.args.index c.requires.whole c.requires.index)

pub returns : goal.returns
returns c = rw (c.start_at-start.ensures) (sym (piece_at 0 c.args.ends.now c.args.lists.now c.args.index c.requires.index))
