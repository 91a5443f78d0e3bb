use Rattle.std.proofs.Common.{◌∙◌, List, ℕ, length, ap, arith}
use Rattle.std.specs.List.{sum_by}
use Rattle.wg_transpose.proofs.InOrder.{list_fits}
use Rattle.wg_shape.specs.Classes.{whole}
use Rattle.wg_shape.proofs.Quotients.{is_proper}
use Rattle.wg_shape.proofs.Gathered.{finished, one_more}
use Rattle.wg_shape.proofs.gathering.gather.Goals as goal

pub push_list-requires-clause-room : goal.push_list-requires-clause-room
push_list-requires-clause-room g c =
    let p = c.args.ranges.now.pages in
    let so_far = ap (sum_by (λ (s : List ℕ). length s)) c.loop-class.invariant.lists in
    let list = c.deref.ensures.value ∙ c.in_ok-list.ensures.value in
    omega (arith, so_far, list_fits (whole p) (is_proper p.graph p.classes p.count) c.loop-class.class (omega arith) c.deref.result.now list, c.nodes-classes.ensures.few)

pub loop-class-preserved : goal.loop-class-preserved
loop-class-preserved g c =
    let i = c.loop-class.invariant in
    record {
      nodes = c.push_list.ensures.nodes ∙ i.nodes;
      lists = one_more c.args.ranges.now.pages c.loop-class.class (omega arith) c.loop-class.builder c.push_list.new.self c.deref.result.now i.lists c.in_ok-push_list.ensures.ok (c.deref.ensures.value ∙ c.in_ok-list.ensures.value);
    }

pub returns : goal.returns
returns g c =
    let i = c.loop-class.invariant in
    finished c.args.ranges.now.pages c.loop-class.builder c.in_ok-made.made c.loop-class.class (omega arith) i.nodes i.lists c.in_ok-made.ensures.nodes c.in_ok-made.ensures.lists
