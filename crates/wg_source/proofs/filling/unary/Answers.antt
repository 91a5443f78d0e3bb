use Rattle.std.proofs.Common.{◌+◌, ◌∙◌, ◌++◌, ℕ, false, ap, refl, sym, arith, drop}
use Rattle.std.proofs.Math.ListN.{replicate}
use Rattle.wg_bits.specs.Bits.{bits_of}
use Rattle.wg_codes.proofs.UnaryWords.{unary_none}
use Rattle.wg_source.specs.Held.{HeldBytes}
use Rattle.wg_codes.specs.declared.unary.TheConstants.{MOST_ZEROS}
use Rattle.wg_source.specs.StepLaws.{two_steps, then_moved}
use Rattle.wg_source.proofs.FillLemmas.{more_zeros, moved_held, one_follows, nothing_follows, some_zeros}
use Rattle.wg_source.proofs.filling.unary.Goals as goal

pub returns-then-zeros-gt-MOST_ZEROS-clause-found : goal.returns-then-zeros-gt-MOST_ZEROS-clause-found
returns-then-zeros-gt-MOST_ZEROS-clause-found g c = λ t file is i.
    let n : ℕ = c.loop-held.zeros + c.zeros-zeros.result in
    let v = c.loop-held.invariant in
    let steps = two_steps _ _ _ _ _ _ _ _ _ _ _ _ refl v.steps c.in_ok-fill.ensures.steps in
    let here = steps.in_step t file is i in
    let before = v.zeros t file is i ∙ ap (λ m. replicate c.loop-held.zeros false ++ drop m (bits_of file)) (sym c.in_ok-fill.ensures.at) in
    let zeros = more_zeros file c.fill.new.held c.zeros-zeros.new.self c.args.held.now.at c.loop-held.zeros c.zeros-zeros.result c.in_ok-fill.ensures.inside c.zeros-zeros.ensures.inside c.zeros-zeros.ensures.moved here c.zeros-zeros.ensures.zeros before in
    (unary_none MOST_ZEROS n _ _ (omega (arith, c.if-zeros-gt-MOST_ZEROS.true)) zeros, tt)

pub returns-then-holds_bit-clause-steps : goal.returns-then-holds_bit-clause-steps
returns-then-holds_bit-clause-steps g c =
    let v = c.loop-held.invariant in
    let steps = two_steps _ _ _ _ _ _ _ _ _ _ _ _ refl v.steps c.in_ok-fill.ensures.steps in
    then_moved _ _ _ _ _ _ _ _ _ _ (omega arith) (then_moved _ _ _ _ _ _ _ _ _ _ (omega arith) steps c.zeros-zeros.ensures.moved) c.advance.ensures

pub returns-then-holds_bit-clause-found : goal.returns-then-holds_bit-clause-found
returns-then-holds_bit-clause-found g c = λ t file is i.
    let n : ℕ = c.loop-held.zeros + c.zeros-zeros.result in
    let v = c.loop-held.invariant in
    let steps = two_steps _ _ _ _ _ _ _ _ _ _ _ _ refl v.steps c.in_ok-fill.ensures.steps in
    let here = steps.in_step t file is i in
    let before = v.zeros t file is i ∙ ap (λ m. replicate c.loop-held.zeros false ++ drop m (bits_of file)) (sym c.in_ok-fill.ensures.at) in
    let zeros = more_zeros file c.fill.new.held c.zeros-zeros.new.self c.args.held.now.at c.loop-held.zeros c.zeros-zeros.result c.in_ok-fill.ensures.inside c.zeros-zeros.ensures.inside c.zeros-zeros.ensures.moved here c.zeros-zeros.ensures.zeros before in
    one_follows file c.zeros-zeros.new.self c.args.held.now.at n MOST_ZEROS c.advance.new.self.at (omega arith) c.zeros-zeros.ensures.inside
    (moved_held file _ _ _ c.zeros-zeros.ensures.moved here) (c.holds_bit.ensures.some c.if-holds_bit.true) (c.zeros-zeros.ensures.stops (omega arith)) zeros
    (omega (arith, v.place, c.in_ok-fill.ensures.at, ap (λ (h : HeldBytes). h.at) c.zeros-zeros.ensures.moved)) (ap (λ (h : HeldBytes). h.at) c.advance.ensures)

pub returns-then-ended-clause-found : goal.returns-then-ended-clause-found
returns-then-ended-clause-found g c = λ t file is i.
    let n : ℕ = c.loop-held.zeros + c.zeros-zeros.result in
    let v = c.loop-held.invariant in
    let steps = two_steps _ _ _ _ _ _ _ _ _ _ _ _ refl v.steps c.in_ok-fill.ensures.steps in
    let here = steps.in_step t file is i in
    let before = v.zeros t file is i ∙ ap (λ m. replicate c.loop-held.zeros false ++ drop m (bits_of file)) (sym c.in_ok-fill.ensures.at) in
    let zeros = more_zeros file c.fill.new.held c.zeros-zeros.new.self c.args.held.now.at c.loop-held.zeros c.zeros-zeros.result c.in_ok-fill.ensures.inside c.zeros-zeros.ensures.inside c.zeros-zeros.ensures.moved here c.zeros-zeros.ensures.zeros before in (
      nothing_follows file c.zeros-zeros.new.self c.args.held.now.at n MOST_ZEROS (omega (arith, c.if-zeros-gt-MOST_ZEROS.false)) c.zeros-zeros.ensures.inside
          (moved_held file _ _ _ c.zeros-zeros.ensures.moved here) (c.holds_bit.ensures.none c.if-holds_bit.false) (sym c.ended.ensures ∙ c.if-ended.true) zeros,
      tt,
    )

pub loop-held-smaller : goal.loop-held-smaller
loop-held-smaller g c =
    let some = some_zeros c.fill.new.held c.zeros-zeros.new.self c.zeros-zeros.result c.in_ok-fill.ensures.inside c.in_ok-fill.ensures.next (λ e. cc (e, c.if-ended.false, c.ended.ensures)) (ap (λ (h : HeldBytes). h.ended) c.zeros-zeros.ensures.moved) (c.holds_bit.ensures.none c.if-holds_bit.false) c.zeros-zeros.ensures.zeros in
    omega (arith, some, c.if-zeros-gt-MOST_ZEROS.false)

pub loop-held-preserved : goal.loop-held-preserved
loop-held-preserved g c =
    let v = c.loop-held.invariant in
    let steps = two_steps _ _ _ _ _ _ _ _ _ _ _ _ refl v.steps c.in_ok-fill.ensures.steps in
    record {
      steps = then_moved _ _ _ _ _ _ _ _ _ _ (omega arith) steps c.zeros-zeros.ensures.moved;
      few = omega (arith, c.if-zeros-gt-MOST_ZEROS.false);
      place = omega (arith, v.place, c.in_ok-fill.ensures.at, ap (λ (h : HeldBytes). h.at) c.zeros-zeros.ensures.moved);
      zeros = λ t file is i.
          let here = steps.in_step t file is i in
          let before = v.zeros t file is i ∙ ap (λ m. replicate c.loop-held.zeros false ++ drop m (bits_of file)) (sym c.in_ok-fill.ensures.at) in
          more_zeros file c.fill.new.held c.zeros-zeros.new.self c.args.held.now.at c.loop-held.zeros c.zeros-zeros.result c.in_ok-fill.ensures.inside c.zeros-zeros.ensures.inside c.zeros-zeros.ensures.moved here c.zeros-zeros.ensures.zeros before;
    }
