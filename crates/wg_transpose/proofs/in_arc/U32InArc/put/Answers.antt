use Rattle.std.proofs.Common.{arith}
use Rattle.wg_transpose.proofs.Places.{place_fits, place_more}
use Rattle.wg_transpose.proofs.in_arc.U32InArc.put.Goals as goal

pub bounds-all-end : goal.bounds-all-end
bounds-all-end c = let r = c.requires.next in place_fits r.0 r.1 r.2 r.3 c.args.target c.args.page c.args.ends.now c.args.all.now r.4.list r.4.more r.4.fits r.5.filled

pub offset_bounds-all-end : goal.offset_bounds-all-end
offset_bounds-all-end c =
    let r = c.requires.next in
    omega (arith, c.requires.room, place_fits r.0 r.1 r.2 r.3 c.args.target c.args.page c.args.ends.now c.args.all.now r.4.list r.4.more r.4.fits r.5.filled)

pub overflow_add-ends : goal.overflow_add-ends
overflow_add-ends c =
    let r = c.requires.next in
    omega (arith, c.requires.room, place_fits r.0 r.1 r.2 r.3 c.args.target c.args.page c.args.ends.now c.args.all.now r.4.list r.4.more r.4.fits r.5.filled)

pub returns : goal.returns
returns c = record {
  next = λ n whole b d next h. record {
    filled = place_more n whole b d c.args.target c.args.page c.args.ends.now c.args.all.now next.list next.more next.fits h.filled;
    places = h.places;
    reached = h.reached;
  };
}
