use Rattle.std.proofs.Common.{sym, ap, length, arith}
use Rattle.std.proofs.lemmas.Fmt.{decimal_digit}
use Rattle.wg_num.proofs.Places.{digits_of_power}
use Rattle.wg_num.proofs.decimal.digit_count.Goals as goal

pub returns-in-Some-clause-digits : goal.returns-in-Some-clause-digits
returns-in-Some-clause-digits c = let e = c.in-Some.ensures in sym (digits_of_power c.in-Some.power c.args.value e.power_le e.next_power_gt (omega arith))

pub returns-in-None-clause-digits : goal.returns-in-None-clause-digits
returns-in-None-clause-digits c = rw c.in-None.ensures.none (sym (ap length (decimal_digit 0 (omega arith))))
