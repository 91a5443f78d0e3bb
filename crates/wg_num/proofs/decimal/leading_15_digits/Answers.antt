use Rattle.std.proofs.Common.{◌≡◌, ◌-◌, ◌<◌, ◌≤◌, ℕ, true, ◌∙◌, sym, length, get_or, take, arith}
use Rattle.std.specs.Char.{is_ascii_digit}
use Rattle.std.proofs.lemmas.Bool.{false≢true}
use Rattle.std.proofs.lemmas.List.{length-take-le}
use Rattle.wg_num.proofs.Numbers.{more_digits, value_more, in_range, digit_fits, few_digits, digits_text, number_of-none}
use Rattle.wg_num.proofs.Leading.{leading_are, leading_some, leading_none}
use Rattle.wg_num.proofs.decimal.leading_15_digits.Goals as goal
use Rattle.wg_num.proofs.decimal.leading_15_digits.Goals.{then-digits-test+else-is_ascii_digit, else-digits-test, then-count-eq0-via-then-count-eq0, then-count-eq0-via-else-count-eq0+then-has_zero_in_front}

-- a digit's value
digit_low : (c : ℕ) → is_ascii_digit c ≡ true → c - 48 < 10
digit_low c e = let k = in_range c e in omega (arith, k.0, k.1)

pub overflow_mul-value : goal.overflow_mul-value
overflow_mul-value c =
    let few = few_digits c.digits.value c.digits.count (omega (arith, c.digits.invariant.within, c.min-most.ensures)) c.digits.invariant.small in omega (arith, few)

pub overflow_add-value : goal.overflow_add-value
overflow_add-value c =
    let few = few_digits c.digits.value c.digits.count (omega (arith, c.digits.invariant.within, c.min-most.ensures)) c.digits.invariant.small in
    let digit : is_ascii_digit (get_or c.args.text.now c.digits.count 0) ≡ true = sym c.is_ascii_digit.ensures.value ∙ c.if-is_ascii_digit.true in
    omega (arith, few, digit_low (get_or c.args.text.now c.digits.count 0) digit)

pub digits-preserved : goal.digits-preserved
digits-preserved c =
    let digit : is_ascii_digit (get_or c.args.text.now c.digits.count 0) ≡ true = sym c.is_ascii_digit.ensures.value ∙ c.if-is_ascii_digit.true in
    let there : c.digits.count < length c.args.text.now = omega (arith, c.digits-test.true, c.min-most.ensures) in
    let i = c.digits.invariant in
    record {
      within = omega (arith, c.digits-test.true);
      digits = more_digits c.args.text.now c.digits.count there digit i.digits;
      value = omega (arith, value_more c.args.text.now c.digits.count there digit, i.value);
      small = digit_fits c.digits.value c.digits.count (get_or c.args.text.now c.digits.count 0 - 48) i.small (digit_low (get_or c.args.text.now c.digits.count 0) digit);
    }

pub returns-clause-digits : goal.returns-clause-digits
returns-clause-digits c =
    let i = c.digits.invariant in
    let there : c.digits.count ≤ length c.args.text.now = omega (arith, i.within, c.min-most.ensures) in
    let size : length (take c.digits.count c.args.text.now) ≡ c.digits.count = length-take-le c.digits.count c.args.text.now there in
    digits_text (take c.digits.count c.args.text.now) c.digits.value i.digits i.value (omega (arith, size, c.if-count-eq0.false))
    (λ e. let no : 1 < length (take c.digits.count c.args.text.now) → ⊥ = λ h. false≢true (sym c.if-has_zero_in_front.false ∙ c.has_zero_in_front.ensures.1 (e, h)) in omega (arith, size, c.if-count-eq0.false))
    (omega arith)

pub returns-then-count-eq0-clause-value : goal.returns-then-count-eq0-clause-value
returns-then-count-eq0-clause-value c =
    let there : c.digits.count ≤ length c.args.text.now = omega (arith, c.digits.invariant.within, c.min-most.ensures) in
    let size : length (take c.digits.count c.args.text.now) ≡ c.digits.count = length-take-le c.digits.count c.args.text.now there in
    leading_none c.args.text.now (take c.digits.count c.args.text.now)
    (leading_are c.args.text.now c.digits.count _ c.min-most.ensures c.digits.invariant.within c.digits.invariant.digits (λ h.
    elim c.digits-test.branch [
      | then-digits-test+else-is_ascii_digit w ↦ sym w.is_ascii_digit.ensures.value ∙ w.if-is_ascii_digit.false
      | else-digits-test w ↦ absurd (omega (arith, w.digits-test.false, h))
    ]))
    (number_of-none (take c.digits.count c.args.text.now) (λ some.
    elim c.then-count-eq0.branch [
      | then-count-eq0-via-then-count-eq0 w ↦ absurd (omega (arith, some, size, w.if-count-eq0.true))
      | then-count-eq0-via-else-count-eq0+then-has_zero_in_front w ↦ w.has_zero_in_front.ensures.0 w.if-has_zero_in_front.true
    ]))

pub returns-clause-value : goal.returns-clause-value
returns-clause-value c =
    let there : c.digits.count ≤ length c.args.text.now = omega (arith, c.digits.invariant.within, c.min-most.ensures) in
    leading_some c.args.text.now c.digits.value c.digits.count there
    (leading_are c.args.text.now c.digits.count _ c.min-most.ensures c.digits.invariant.within c.digits.invariant.digits (λ h.
    elim c.digits-test.branch [
      | then-digits-test+else-is_ascii_digit w ↦ sym w.is_ascii_digit.ensures.value ∙ w.if-is_ascii_digit.false
      | else-digits-test w ↦ absurd (omega (arith, w.digits-test.false, h))
    ]))
    (returns-clause-digits c)
    (let few = few_digits c.digits.value c.digits.count (omega (arith, c.digits.invariant.within, c.min-most.ensures)) c.digits.invariant.small in omega (arith, few))
