use Rattle.std.proofs.Common.{length, ap, sym, ◌∙◌, arith}
use Rattle.wg_num.specs.Units.{value_of_units, units_of}
use Rattle.wg_num.proofs.UnitsRead.{units_unless, units_of-text, units_exact, value_of_text, text_length, text_point, text_digits, text_read}
use Rattle.wg_num.proofs.units.read_units.Goals as goal

pub returns-then-text-ne26-clause-value : goal.returns-then-text-ne26-clause-value
returns-then-text-ne26-clause-value c = sym (units_unless c.args.text.now (λ v h is. omega (arith, ap length is, text_length v, c.if-text-ne26.true)))

pub returns-then-text-ne26-clause-exact : goal.returns-then-text-ne26-clause-exact
returns-then-text-ne26-clause-exact c = units_exact c.args.text.now _ (returns-then-text-ne26-clause-value c)

pub returns-then-text-ne46-clause-value : goal.returns-then-text-ne46-clause-value
returns-then-text-ne46-clause-value c = sym (units_unless c.args.text.now (λ v h is. omega (arith, text_point c.args.text.now v is, c.if-text-ne46.true)))

pub returns-then-text-ne46-clause-exact : goal.returns-then-text-ne46-clause-exact
returns-then-text-ne46-clause-exact c = units_exact c.args.text.now _ (returns-then-text-ne46-clause-value c)

pub returns-in_err-value-clause-value : goal.returns-in_err-value-clause-value
returns-in_err-value-clause-value c =
    c.from_residual.ensures ∙ sym (units_unless c.args.text.now (λ v h is. c.in_err-value.ensures (text_digits c.args.text.now v h is)))

pub returns-in_err-value-clause-exact : goal.returns-in_err-value-clause-exact
returns-in_err-value-clause-exact c = units_exact c.args.text.now _ (returns-in_err-value-clause-value c)

pub returns-then-value-gt-UNITS-clause-value : goal.returns-then-value-gt-UNITS-clause-value
returns-then-value-gt-UNITS-clause-value c =
    sym (units_unless c.args.text.now (λ v h is.
    omega (arith, c.in_ok-value.ensures.1, ap value_of_units is, value_of_text v h, c.if-value-gt-UNITS.true)))

pub returns-then-value-gt-UNITS-clause-exact : goal.returns-then-value-gt-UNITS-clause-exact
returns-then-value-gt-UNITS-clause-exact c = units_exact c.args.text.now _ (returns-then-value-gt-UNITS-clause-value c)

pub returns-clause-read : goal.returns-clause-read
returns-clause-read c = text_read c.args.text.now c.in_ok-value.value (omega arith) (omega arith) c.in_ok-value.ensures.0 c.in_ok-value.ensures.1

pub returns-clause-value : goal.returns-clause-value
returns-clause-value c = sym (ap units_of (returns-clause-read c) ∙ units_of-text c.in_ok-value.value (omega arith))

pub returns-clause-exact : goal.returns-clause-exact
returns-clause-exact c = units_exact c.args.text.now _ (returns-clause-value c)
