use Rattle.std.proofs.Common.{ℕ, List, ◌++◌, ap, subst, ◌∙◌, arith}
use Rattle.wg_graph.specs.Ascending.{Ascends, Below}
use Rattle.wg_graph.specs.Digraph.{successors}
use Rattle.wg_shape.proofs.OneByOne.{below_front, below_at, added_more, parts_more, one_arc}
use Rattle.wg_shape.proofs.adding.add_union.Goals as goal

pub push-requires : goal.push-requires
push-requires g c =
    let list : List ℕ = successors c.numbers.builder c.args.page in
    let parts = c.numbers.invariant.parts ∙ ap (λ (l : List ℕ). list ++ l) c.in-Some.ensures.gives in
    let low = below_at c.args.builder.now.nodes list c.in-Some.number c.next.new.self (subst (Below c.args.builder.now.nodes) parts c.requires.below) in
    record {
      source = omega (arith, c.numbers.invariant.added.nodes, c.requires.page);
      target = omega (arith, c.numbers.invariant.added.nodes, low);
      not_past = c.numbers.invariant.added.begun;
      above = below_front 0 list c.in-Some.number c.next.new.self (subst (Ascends 0) parts (c.numbers.invariant.ascends c.in-Some.ensures.ascends));
      room = omega (arith, c.numbers.invariant.room, c.if-room-eq0.false);
    }

pub numbers-preserved : goal.numbers-preserved
numbers-preserved g c =
    let parts = c.numbers.invariant.parts ∙ ap (λ (l : List ℕ). successors c.numbers.builder c.args.page ++ l) c.in-Some.ensures.gives in
    let begun = c.numbers.invariant.added.begun in
    record {
      added = added_more c.args.numbers c.next.new.self c.args.page c.in-Some.number c.args.builder.now c.numbers.builder c.push.new.self c.numbers.invariant.added parts c.in_ok-push.ensures.nodes c.in_ok-push.ensures.ok;
      parts = parts_more c.args.numbers c.next.new.self c.args.page c.in-Some.number c.numbers.builder c.push.new.self begun parts c.in_ok-push.ensures.ok;
      room = omega (arith, c.numbers.invariant.room, c.if-room-eq0.false, one_arc c.args.page c.in-Some.number c.numbers.builder c.push.new.self begun c.in_ok-push.ensures.ok);
      ascends = λ up. c.numbers.invariant.ascends c.in-Some.ensures.ascends;
    }
