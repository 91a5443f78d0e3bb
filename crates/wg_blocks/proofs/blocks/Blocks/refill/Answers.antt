use Rattle.std.proofs.Common.{◌≡◌, ◌+◌, ℕ, List, ◌++◌, sym, subst, arith}
use Rattle.std.specs.Prelude.{option_to_list}
use Rattle.std.proofs.lemmas.List.{append-nil}
use Rattle.wg_blocks.proofs.Made.{Making, begun, more, done}
use Rattle.wg_blocks.proofs.blocks.Blocks.refill.Goals.{in-Some+in_ok-push, in_default}
use Rattle.wg_blocks.proofs.blocks.Blocks.refill.Goals as goal

pub loop-y-init : goal.loop-y-init
loop-y-init c = record {
  short = omega (arith);
  making = begun c.args.list.now c.args.referenced.now c.of-members.result c.first-run.result c.clear.new.self.items c.of-members.ensures c.clear.ensures.items c.requires.referenced c.first-run.ensures.blocks;
}

pub loop-y-preserved : goal.loop-y-preserved
loop-y-preserved c =
    let made : c.match-step.self-inside.blocks.items ≡ c.loop-y.self-inside.blocks.items ++ option_to_list c.step.result = elim c.match-step.branch [ in-Some+in_ok-push w ↦ rw (w.self-inside-is, w.in-Some.is) w.in_ok-push.ensures.items | in_default w ↦ rw (w.self-inside-is, w.in_default.is) (sym (append-nil _)) ] in
    record {
      short = omega (arith);
      making = subst (λ (bs : List ℕ). Making c.args.list.now c.args.referenced.now c.has.new.self (c.loop-y.y-index + 1) c.step.new.self bs) (sym made)
          (more c.args.list.now c.args.referenced.now c.loop-y.members c.has.new.self c.loop-y.y-index c.loop-y.run c.step.new.self c.loop-y.self-inside.blocks.items c.step.result c.has.result c.loop-y-test.true c.loop-y.invariant.making c.has.ensures.told c.has.ensures.later c.step.ensures.blocks);
    }

pub returns : goal.returns
returns c = done c.args.list.now c.args.referenced.now c.loop-y.members c.loop-y.y-index c.loop-y.run c.loop-y.self-inside.blocks.items (omega arith) c.loop-y.invariant.making
