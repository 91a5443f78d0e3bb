use Rattle.std.proofs.Common.{◌≡◌, ◌*◌, ◌<◌, ◌^◌, length, take, drop, ap, subst, arith}
use Rattle.std.specs.Str.Parse.{AllDigits, digits_value}
use Rattle.std.proofs.lemmas.List.{length-take, length-drop, take_rest}
use Rattle.wg_num.proofs.Numbers.{for_want}
use Rattle.wg_num.proofs.UnitsRead.{few_digits, halves_value, halves_digits, part_digits}
use Rattle.wg_num.proofs.units.digits_of.Goals as goal

pub returns-in_err-whole : goal.returns-in_err-whole
returns-in_err-whole c =
    for_want _ _ _ c.from_residual.ensures (λ p.
    let part = (part_digits c.args.text.now p).0 in
    let n : length (take 1 c.args.text.now) ≡ 1 = omega (arith, length-take 1 c.args.text.now, c.requires) in
    c.in_err-whole.ensures (part, omega (arith, few_digits 1 (take 1 c.args.text.now) n part)))

pub returns-in_err-high : goal.returns-in_err-high
returns-in_err-high c =
    for_want _ _ _ c.from_residual-in_err-high.ensures (λ p.
    let part = (part_digits c.args.text.now p).1 in
    let n : length (take 12 (drop 2 c.args.text.now)) ≡ 12 = omega (arith, length-take 12 (drop 2 c.args.text.now), length-drop 2 c.args.text.now, c.requires) in
    c.in_err-high.ensures (part, omega (arith, few_digits 12 (take 12 (drop 2 c.args.text.now)) n part)))

pub returns-in_err-low : goal.returns-in_err-low
returns-in_err-low c =
    for_want _ _ _ c.from_residual-in_err-low.ensures (λ p.
    let part = (part_digits c.args.text.now p).2 in
    let n : length (drop 14 c.args.text.now) ≡ 12 = omega (arith, length-drop 14 c.args.text.now, c.requires) in
    subst (λ l. AllDigits 10 l × (digits_value 10 l < 2 ^ 64) → ⊥) (take_rest c.args.text.now 14) c.in_err-low.ensures
    (part, omega (arith, few_digits 12 (drop 14 c.args.text.now) n part)))

pub overflow_add-whole : goal.overflow_add-whole
overflow_add-whole c =
    let n : length (take 1 c.args.text.now) ≡ 1 = omega (arith, length-take 1 c.args.text.now, c.requires) in
    let m : length (take 12 (drop 2 c.args.text.now)) ≡ 12 = omega (arith, length-take 12 (drop 2 c.args.text.now), length-drop 2 c.args.text.now, c.requires) in
    omega (
      arith,
      c.in_ok-whole.ensures.1,
      c.in_ok-high.ensures.1,
      few_digits 1 (take 1 c.args.text.now) n c.in_ok-whole.ensures.0.0,
      few_digits 12 (take 12 (drop 2 c.args.text.now)) m c.in_ok-high.ensures.0.0,
    )

pub returns : goal.returns
returns c =
    let rest = take_rest c.args.text.now 14 in (
      halves_digits c.args.text.now c.in_ok-whole.ensures.0.0 c.in_ok-high.ensures.0.0 (subst (AllDigits 10) rest c.in_ok-low.ensures.0.0),
      omega (
        arith,
        halves_value c.args.text.now c.requires,
        c.in_ok-whole.ensures.1,
        c.in_ok-high.ensures.1,
        c.in_ok-low.ensures.1,
        ap (digits_value 10) rest,
        c.from.ensures,
        ap (λ b. c.from.result * b) c.from-2.ensures,
        c.from-3.ensures,
      ),
    )
