use Rattle.std.proofs.Common.{refl, arith}
use Rattle.wg_decoder.proofs.value.later_number.Goals as goal

pub returns : goal.returns
returns g c = record {
  later = c.in_ok-value.ensures.later;
  refused = tt;
  below = omega arith;
  above = omega arith;
  ok = λ bits r. record { value = c.in_ok-value.value; word = c.in_ok-value.ensures.ok bits r; means = refl };
  fault = λ bits r. tt;
}
