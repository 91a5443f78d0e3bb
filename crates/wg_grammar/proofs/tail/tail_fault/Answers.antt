use Rattle.std.proofs.Common.{ℕ, ◌+◌, ◌≤◌, length, subst, sym, arith}
use Rattle.wg_bits.specs.Bits.{rest}
use Rattle.wg_grammar.specs.declared.tail.TheConstants.{MOST_TAIL}
use Rattle.wg_grammar.specs.Archive.{IsTailFault}
use Rattle.wg_grammar.proofs.Tails.{too_many, one_stands, all_zero}
use Rattle.wg_grammar.proofs.tail.tail_fault.Goals as goal

pub returns-then-zeros-gt-MOST_TAIL-clause-some : goal.returns-then-zeros-gt-MOST_TAIL-clause-some
returns-then-zeros-gt-MOST_TAIL-clause-some c =
    let p = c.args.cursor.now in
    let fits : p.at ≤ length p.bits = omega (arith, c.at-start.ensures.offset, c.at-start.ensures.within) in
    subst (λ (s : ℕ). IsTailFault p.bits p.at (s + MOST_TAIL)) (sym c.at-start.ensures.offset)
    (too_many p.bits (rest c.zeros-zeros.new.self) p.at c.zeros-zeros.result fits c.zeros-zeros.ensures.zeros c.if-zeros-gt-MOST_TAIL.true c.zeros-zeros.ensures.within)

pub returns-then-remaining-gt0-clause-some : goal.returns-then-remaining-gt0-clause-some
returns-then-remaining-gt0-clause-some c =
    let p = c.args.cursor.now in
    let fits : p.at ≤ length p.bits = omega (arith, c.at-start.ensures.offset, c.at-start.ensures.within) in
    subst (λ (s : ℕ). IsTailFault p.bits p.at (s + c.zeros-zeros.result)) (sym c.at-start.ensures.offset)
    (one_stands p.bits (rest c.zeros-zeros.new.self) p.at c.zeros-zeros.result fits c.zeros-zeros.ensures.zeros c.if-zeros-gt-MOST_TAIL.false
    (c.zeros-zeros.ensures.stops (omega arith)) (omega (arith, c.remaining.ensures, c.if-remaining-gt0.true)))

pub returns-clause-none : goal.returns-clause-none
returns-clause-none c =
    let p = c.args.cursor.now in
    let fits : p.at ≤ length p.bits = omega (arith, c.at-start.ensures.offset, c.at-start.ensures.within) in
    all_zero p.bits (rest c.zeros-zeros.new.self) p.at c.zeros-zeros.result fits c.zeros-zeros.ensures.zeros c.if-zeros-gt-MOST_TAIL.false (omega (arith, c.remaining.ensures, c.if-remaining-gt0.false))
