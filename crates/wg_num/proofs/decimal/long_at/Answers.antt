use Rattle.std.proofs.Common.{arith}
use Rattle.wg_num.proofs.Places.{at_front, front_is, length_kept}
use Rattle.wg_num.proofs.decimal.long_at.Goals as goal

pub write_digits-requires : goal.write_digits-requires
write_digits-requires c = let d = c.digit_count-count.ensures in (omega (arith, d.digits), omega (arith, d.within, c.requires))

pub returns-clause-digits : goal.returns-clause-digits
returns-clause-digits c =
    let d = c.digit_count-count.ensures.digits in
    let w = c.write_digits.ensures in
    front_is _ _ _ _ d (at_front _ _ _ _ _ w.start d w.written)

pub returns-clause-length : goal.returns-clause-length
returns-clause-length c =
    let d = c.digit_count-count.ensures in
    let w = c.write_digits.ensures in
    length_kept _ _ _ _ d.digits (omega (arith, d.within, c.requires)) (at_front _ _ _ _ _ w.start d.digits w.written)
