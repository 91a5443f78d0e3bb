use Rattle.std.proofs.Common.{◌≡◌, ◌<◌, ◌≤◌, false, arith, rules}
use Rattle.wg_codes.proofs.NibbleWords.{open_none, nothing_read, nothing_moved, nibble_cut, last_digit_open, digit_cut, value_small, nibble_value, nibble_place, zero_digit, open_next, open_step, digit_place}
use Rattle.wg_codes.proofs.nibble.read.Goals as goal
use Rattle.wg_codes.proofs.nibble.read.Goals.{else-not-last-via-then-not-last+else-digit-eq20, else-not-last-via-else-not-last}

pub loop-digit-init : goal.loop-digit-init
loop-digit-init c = record {
  few = omega arith;
  lead = open_none;
  digits = nothing_read c.args.cursor.now;
  moves = nothing_moved c.args.cursor.now;
}

pub returns-in_default-clause-found : goal.returns-in_default-clause-found
returns-in_default-clause-found c =
    nibble_cut c.loop-digit.digit c.loop-digit.value _ _ c.loop-digit.invariant.few c.loop-digit.invariant.lead c.loop-digit.invariant.digits c.in_default.ensures.none.0

pub returns-then-digit-eq20-clause-found : goal.returns-then-digit-eq20-clause-found
returns-then-digit-eq20-clause-found c =
    last_digit_open c.loop-digit.digit c.loop-digit.value _ _ _ c.in-Some.last (omega arith) (search rules) c.loop-digit.invariant.digits c.in-Some.ensures.some.0

pub returns-in_default-take-clause-found : goal.returns-in_default-take-clause-found
returns-in_default-take-clause-found c =
    let more : c.in-Some.last ≡ false → c.loop-digit.digit ≤ 19 = λ e.
    elim c.else-not-last.branch [
      | else-not-last-via-then-not-last+else-digit-eq20 w ↦ (let f = c.loop-digit.invariant.few in omega arith)
      | else-not-last-via-else-not-last w ↦ (let t = w.if-not-last.false in cc)
    ] in
    digit_cut c.loop-digit.digit c.loop-digit.value _ _ _ c.in-Some.last c.loop-digit.invariant.few c.loop-digit.invariant.lead more c.loop-digit.invariant.digits c.in-Some.ensures.some.0 c.in_default-take.ensures.none.0

pub overflow_mul-value : goal.overflow_mul-value
overflow_mul-value c =
    let s = value_small c.loop-digit.digit c.loop-digit.value c.loop-digit.invariant.few c.loop-digit.invariant.lead in omega arith

pub overflow_add-value : goal.overflow_add-value
overflow_add-value c =
    let s = value_small c.loop-digit.digit c.loop-digit.value c.loop-digit.invariant.few c.loop-digit.invariant.lead in
    let t : c.in-Some-take.next < 8 = c.in-Some-take.ensures.some.0 in omega arith

pub returns-then-last-clause-found : goal.returns-then-last-clause-found
returns-then-last-clause-found c =
    nibble_value c.loop-digit.digit c.loop-digit.value c.in-Some-take.next _ _ _ _ c.in-Some.last c.loop-digit.invariant.few c.loop-digit.invariant.lead
    c.in-Some-take.ensures.some.0 c.if-last.true c.loop-digit.invariant.digits c.in-Some.ensures.some.0 c.in-Some-take.ensures.some.1

pub returns-then-last-clause-moves : goal.returns-then-last-clause-moves
returns-then-last-clause-moves c =
    nibble_place c.loop-digit.digit c.loop-digit.value c.in-Some-take.next _ _ _ _ c.loop-digit.invariant.few c.loop-digit.invariant.lead
    c.in-Some-take.ensures.some.0 c.loop-digit.invariant.moves c.in-Some.ensures.some.1 c.in-Some-take.ensures.some.2

pub returns-then-value-eq0-clause-found : goal.returns-then-value-eq0-clause-found
returns-then-value-eq0-clause-found c =
    zero_digit c.loop-digit.digit c.loop-digit.value c.in-Some-take.next _ _ _ _ c.in-Some.last c.in-Some-take.ensures.some.0 c.loop-digit.invariant.lead
    (omega arith) c.if-last.false c.loop-digit.invariant.digits c.in-Some.ensures.some.0 c.in-Some-take.ensures.some.1

pub loop-digit-preserved : goal.loop-digit-preserved
loop-digit-preserved c =
    let more : c.loop-digit.digit ≤ 19 =
    elim c.else-not-last.branch [
      | else-not-last-via-then-not-last+else-digit-eq20 w ↦ (let f = c.loop-digit.invariant.few in omega arith)
      | else-not-last-via-else-not-last w ↦ (let t = w.if-not-last.false in let f = c.if-last.false in cc)
    ] in
    record {
      few = omega arith;
      lead = open_next c.loop-digit.digit c.loop-digit.value c.in-Some-take.next c.loop-digit.invariant.lead c.in-Some-take.ensures.some.0 (λ e. omega arith);
      digits = open_step c.loop-digit.digit c.loop-digit.value c.in-Some-take.next _ _ _ _ c.in-Some.last c.in-Some-take.ensures.some.0 c.if-last.false
          c.loop-digit.invariant.digits c.in-Some.ensures.some.0 c.in-Some-take.ensures.some.1;
      moves = digit_place c.loop-digit.digit _ _ _ _ c.loop-digit.invariant.moves c.in-Some.ensures.some.1 c.in-Some-take.ensures.some.2;
    }
