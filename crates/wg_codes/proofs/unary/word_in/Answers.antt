use Rattle.std.proofs.Common.{arith, refl, sym}
use Rattle.wg_bits.proofs.Fronts.{front_agrees}
use Rattle.wg_codes.proofs.UnaryWords.{length-unary}
use Rattle.wg_codes.proofs.Windows.{unary_found}
use Rattle.wg_codes.proofs.unary.word_in.Goals as goal

pub returns : goal.returns
returns c =
    record {
      few = omega arith;
      size = sym (length-unary _);
      read = λ z front long. unary_found z c.args.window _ c.args.most c.ranges.window.fits refl (omega arith) (omega arith) (front_agrees _ z front) long;
    }
