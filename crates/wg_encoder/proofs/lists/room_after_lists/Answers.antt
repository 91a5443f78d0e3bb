use Rattle.std.proofs.Common.{◌≡◌, suc, ◌+◌, ◌^◌, ◌++◌, ◌∷◌, [], ◌∙◌, drop, get_or, ap, sym, subst, arith}
use Rattle.std.proofs.lemmas.List.{drop_more, drop_all}
use Rattle.wg_graph.specs.Ascending.{Ascends, Below}
use Rattle.wg_graph.proofs.Sets.{ascends_more}
use Rattle.wg_blocks.specs.Canonical.{mask_of}
use Rattle.wg_greedy.specs.Fields.{extras}
use Rattle.wg_encoder.specs.Cost.{room_after}
use Rattle.wg_encoder.specs.Dues.{block_dues, extra_dues}
use Rattle.wg_encoder.proofs.Rooms.{none_left}
use Rattle.wg_encoder.proofs.Both.{passed, come_past, below_moved, member_moved, both_ended}
use Rattle.wg_encoder.proofs.lists.room_after_lists.Goals as goal

pub loop-y-init : goal.loop-y-init
loop-y-init c = record {
  within = c.new-blocks.ensures.within;
  come = c.new-extras.ensures.come c.of-members.result (subst (Ascends 0) (sym c.of-members.ensures) c.requires.list) (subst (Below (2 ^ 62)) (sym c.of-members.ensures) c.requires.low);
  up = c.requires.referenced;
  fields = ap (λ members. room_after c.args.room (block_dues c.new-blocks.result (mask_of members c.args.referenced.now) ++ extra_dues c.new-extras.result (extras members c.args.referenced.now))) c.of-members.ensures
      ∙ (λ i. room_after c.args.room (c.new-blocks.ensures.fields c.args.referenced.now c.args.list.now i ++ c.new-extras.ensures.fields (extras c.args.list.now c.args.referenced.now) i));
}

pub returns-then-room-eq0 : goal.returns-then-room-eq0
returns-then-room-eq0 c =
    let i = c.loop-y.y-index in
    let y = get_or c.args.referenced.now i 0 in
    let rest = drop i c.args.referenced.now in
    let split : rest ≡ y ∷ drop (i + 1) c.args.referenced.now = drop_more c.args.referenced.now i 0 c.loop-y-test.true in
    let first : Ascends 0 (y ∷ drop (i + 1) c.args.referenced.now) = subst (Ascends 0) split c.loop-y.invariant.up in
    let up : Ascends y rest = subst (Ascends y) (sym split) (omega arith, first.1) in
    sym (none_left (block_dues c.loop-y.blocks (mask_of c.add_below-room.new.members rest) ++ extra_dues c.add_below-room.new.self (extras c.add_below-room.new.members rest)))
    ∙ ap (λ n. room_after n (block_dues c.loop-y.blocks (mask_of c.add_below-room.new.members rest) ++ extra_dues c.add_below-room.new.self (extras c.add_below-room.new.members rest))) (sym c.if-room-eq0.true)
    ∙ below_moved y c.loop-y.room c.add_below-room.result c.loop-y.blocks c.loop-y.extras c.add_below-room.new.self c.loop-y.members c.add_below-room.new.members rest up c.add_below-room.ensures.same c.add_below-room.ensures.fields
    ∙ c.loop-y.invariant.fields

pub loop-y-preserved : goal.loop-y-preserved
loop-y-preserved c =
    let i = c.loop-y.y-index in
    let y = get_or c.args.referenced.now i 0 in
    let rest = drop i c.args.referenced.now in
    let later = drop (i + 1) c.args.referenced.now in
    let split : rest ≡ y ∷ later = drop_more c.args.referenced.now i 0 c.loop-y-test.true in
    let first : Ascends 0 (y ∷ later) = subst (Ascends 0) split c.loop-y.invariant.up in
    let up : Ascends y rest = subst (Ascends y) (sym split) (omega arith, first.1) in
    let members = c.add_below-room.new.members in
    let pass = passed y members c.take.new.self later c.take.result (c.add_below-room.ensures.all (omega (arith, c.if-room-eq0.false))) c.take.ensures.told c.take.ensures.past first.1 in
    record {
      within = c.add-room.ensures.within i c.loop-y.invariant.within;
      come = come_past c.add_below-room.new.self y members c.take.new.self c.take.result c.take.ensures.past c.add_below-room.ensures.come;
      up = ascends_more 0 (suc y) later (omega arith) first.1;
      fields = member_moved y c.add_below-room.result c.add-room.result c.loop-y.blocks c.add-room.new.self c.add_below-room.new.self members c.take.new.self later c.take.result pass c.add-room.ensures.fields
          ∙ ap (λ rs. room_after c.add_below-room.result (block_dues c.loop-y.blocks (mask_of members rs) ++ extra_dues c.add_below-room.new.self (extras members rs))) (sym split)
          ∙ below_moved y c.loop-y.room c.add_below-room.result c.loop-y.blocks c.loop-y.extras c.add_below-room.new.self c.loop-y.members members rest up c.add_below-room.ensures.same c.add_below-room.ensures.fields
          ∙ c.loop-y.invariant.fields;
    }

pub returns : goal.returns
returns c =
    let done : drop c.loop-y.y-index c.args.referenced.now ≡ [] = drop_all c.loop-y.y-index c.args.referenced.now (omega (arith, c.loop-y-test.false)) in
    both_ended (2 ^ 62) c.add_below-room-2.result c.last.result c.last-2.result c.loop-y.blocks c.add_below-room-2.new.self c.add_below-room-2.new.members c.add_below-room-2.ensures.all c.add_below-room-2.ensures.come.low c.last.ensures c.last-2.ensures
    ∙ below_moved (2 ^ 62) c.loop-y.room c.add_below-room-2.result c.loop-y.blocks c.loop-y.extras c.add_below-room-2.new.self c.loop-y.members c.add_below-room-2.new.members [] tt c.add_below-room-2.ensures.same c.add_below-room-2.ensures.fields
    ∙ ap (λ rs. room_after c.loop-y.room (block_dues c.loop-y.blocks (mask_of c.loop-y.members rs) ++ extra_dues c.loop-y.extras (extras c.loop-y.members rs))) (sym done)
    ∙ c.loop-y.invariant.fields
