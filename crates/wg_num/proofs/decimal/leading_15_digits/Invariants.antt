use Rattle.std.proofs.Common.{◌≡◌, ◌-◌, ◌*◌, ◌^◌, ◌<◌, ◌≤◌, take}
use Rattle.std.specs.Str.Parse.{AllDigits, digits_value}
use Rattle.wg_num.proofs.decimal.leading_15_digits.Given as goal

-- the bytes so far are digits, and write the value
abbrev pub invariant-digits : goal.invariant-digits
invariant-digits l = record {
  within : l.count ≤ l.most;
  digits : AllDigits 10 (take l.count l.text);
  value : digits_value 10 (take l.count l.text) ≡ l.value;
  small : l.value < 2 ^ (4 * l.count);
}

abbrev pub decreases-digits : goal.decreases-digits
decreases-digits l = l.most - l.count
