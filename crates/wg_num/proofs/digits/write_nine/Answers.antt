use Rattle.std.proofs.Common.{arith}
use Rattle.wg_num.proofs.Triples.{three_more}
use Rattle.wg_num.proofs.digits.write_nine.Goals as goal

pub returns-clause-digits : goal.returns-clause-digits
returns-clause-digits c =
    three_more c.args.value c.write_six-count.result _ _ (omega (arith, c.if-value-lt1000000.false)) (omega (arith, c.requires.value))
    c.write_six-count.ensures.digits c.write_triple.ensures.written
