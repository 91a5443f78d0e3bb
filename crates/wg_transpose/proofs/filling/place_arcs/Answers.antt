use Rattle.std.proofs.Common.{◌+◌, take, arith}
use Rattle.wg_transpose.specs.Transposed.{predecessors}
use Rattle.wg_transpose.proofs.Seen.{with_page}
use Rattle.wg_transpose.proofs.Begun.{next_arc, behind_last}
use Rattle.wg_transpose.proofs.filling.place_arcs.Goals as goal

pub put-requires : goal.put-requires
put-requires a c =
    let t = a.T.InArc in
    let r = c.requires.begun in
    let k = c.args.page in
    let j = c.loop-target.target-index in
    let list = c.args.list.now in
    record {
      few = omega (arith, c.requires.few);
      room = omega (arith, c.requires.room);
      next = (
        r.0.nodes,
        predecessors r.0,
        with_page r.0 k (take j list),
        with_page r.0 k (take (j + 1) list),
        next_arc t.items t.mark t.none r.0 k j list r.1 a.met.T.InArc.more (omega arith),
        c.loop-target.invariant r.0 r.1 r.2,
      );
    }

pub loop-target-preserved : goal.loop-target-preserved
loop-target-preserved a c = λ g is h.
    let t = a.T.InArc in
    let k = c.args.page in
    let j = c.loop-target.target-index in
    let list = c.args.list.now in
    c.put.ensures.next g.nodes (predecessors g) (with_page g k (take j list)) (with_page g k (take (j + 1) list))
    (next_arc t.items t.mark t.none g k j list is a.met.T.InArc.more (omega arith)) (c.loop-target.invariant g is h)

pub returns : goal.returns
returns a c = record {
  begun = λ g is h.
      let t = a.T.InArc in
      let l = c.loop-target in
      behind_last t.items t.mark t.none g c.args.page l.target-index c.args.list.now is l.ends l.reach l.all (omega arith) (l.invariant g is h);
}
