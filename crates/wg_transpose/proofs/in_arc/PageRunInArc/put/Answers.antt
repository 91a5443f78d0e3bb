use Rattle.std.proofs.Common.{arith}
use Rattle.wg_transpose.proofs.RunSteps.{new_within, longer_within, begun_new, begun_longer}
use Rattle.wg_transpose.proofs.in_arc.PageRunInArc.put.Goals as goal
use Rattle.wg_transpose.proofs.in_arc.PageRunInArc.put.Goals.{then-reach-target, else-reach-target}

pub bounds-all-end : goal.bounds-all-end
bounds-all-end c = let r = c.requires.next in longer_within _ _ _ _ _ _ r.4 _ _ _ r.5 c.requires.few c.if-reach-target.true

pub offset_bounds-all-end : goal.offset_bounds-all-end
offset_bounds-all-end c =
    let r = c.requires.next in
    omega (arith, c.requires.room, longer_within r.0 r.1 r.2 r.3 c.args.target c.args.page r.4 c.args.ends.now c.args.reach.now c.args.all.now r.5 c.requires.few c.if-reach-target.true)

pub bounds-all-end-else-reach-target : goal.bounds-all-end-else-reach-target
bounds-all-end-else-reach-target c = let r = c.requires.next in new_within _ _ _ _ _ _ r.4 _ _ _ r.5 c.if-reach-target.false

pub offset_bounds-all-end-else-reach-target : goal.offset_bounds-all-end-else-reach-target
offset_bounds-all-end-else-reach-target c =
    let r = c.requires.next in
    omega (arith, c.requires.room, new_within r.0 r.1 r.2 r.3 c.args.target c.args.page r.4 c.args.ends.now c.args.reach.now c.args.all.now r.5 c.if-reach-target.false)

pub overflow_add-ends : goal.overflow_add-ends
overflow_add-ends c =
    let r = c.requires.next in
    omega (arith, c.requires.room, new_within r.0 r.1 r.2 r.3 c.args.target c.args.page r.4 c.args.ends.now c.args.reach.now c.args.all.now r.5 c.if-reach-target.false)

pub returns : goal.returns
returns c = record {
  next = λ n whole b d next h. elim c.if-reach-target.branch [
    | then-reach-target w ↦ rw (w.ends-is, w.all-is) (begun_longer n whole b d c.args.target c.args.page next c.args.ends.now c.args.reach.now c.args.all.now h c.requires.few w.if-reach-target.true)
    | else-reach-target w ↦ rw (w.ends-is, w.all-is) (begun_new n whole b d c.args.target c.args.page next c.args.ends.now c.args.reach.now c.args.all.now h w.if-reach-target.false)
  ];
}
