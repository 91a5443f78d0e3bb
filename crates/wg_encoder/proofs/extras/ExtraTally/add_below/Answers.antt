use Rattle.std.proofs.Common.{◌∷◌, ◌∙◌, ap, sym, subst, arith}
use Rattle.wg_graph.specs.Numbers.{is_in}
use Rattle.wg_graph.proofs.Sets.{in_tail}
use Rattle.wg_greedy.specs.Fields.{extras}
use Rattle.wg_encoder.specs.Cost.{room_after}
use Rattle.wg_encoder.specs.Dues.{extra_dues, MayCome}
use Rattle.wg_encoder.proofs.Both.{first_extra, extras_above}
use Rattle.wg_encoder.proofs.extras.ExtraTally.add_below.Goals as goal

pub returns-then-room-eq0-clause-fields : goal.returns-then-room-eq0-clause-fields
returns-then-room-eq0-clause-fields c = λ rest up.
    let split = c.in-Some.ensures.some in
    let first : MayCome c.loop-member.self (c.in-Some.member ∷ c.next_below.new.self) = subst (MayCome c.loop-member.self) split.1 c.loop-member.invariant.come in
    ap (λ room. room_after room (extra_dues c.add-room.new.self (extras c.next_below.new.self rest))) (sym c.if-room-eq0.true)
    ∙ c.add-room.ensures.fields (extras c.next_below.new.self rest) (extras_above c.in-Some.member c.next_below.new.self rest first.up.1)
    ∙ ap (λ numbers. room_after c.loop-member.room (extra_dues c.loop-member.self numbers)) (sym (ap (λ xs. extras xs rest) split.1 ∙ first_extra c.in-Some.member c.args.number c.next_below.new.self rest split.0 up))
    ∙ c.loop-member.invariant.fields rest up

pub loop-member-preserved : goal.loop-member-preserved
loop-member-preserved c =
    let split = c.in-Some.ensures.some in
    let first : MayCome c.loop-member.self (c.in-Some.member ∷ c.next_below.new.self) = subst (MayCome c.loop-member.self) split.1 c.loop-member.invariant.come in
    record {
      come = c.add-room.ensures.come c.next_below.new.self first;
      same = λ y le. sym (ap (is_in y) split.1 ∙ in_tail c.in-Some.member y c.next_below.new.self (omega (arith, split.0, le))) ∙ c.loop-member.invariant.same y le;
      fields = λ rest up. c.add-room.ensures.fields (extras c.next_below.new.self rest) (extras_above c.in-Some.member c.next_below.new.self rest first.up.1)
          ∙ ap (λ numbers. room_after c.loop-member.room (extra_dues c.loop-member.self numbers)) (sym (ap (λ xs. extras xs rest) split.1 ∙ first_extra c.in-Some.member c.args.number c.next_below.new.self rest split.0 up))
          ∙ c.loop-member.invariant.fields rest up;
    }
