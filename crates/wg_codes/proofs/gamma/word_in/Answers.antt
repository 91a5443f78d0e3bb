use Rattle.std.proofs.Common.{arith, refl}
use Rattle.wg_bits.proofs.Fronts.{front_agrees}
use Rattle.wg_codes.proofs.Windows.{window_number, fast_found, fast_place}
use Rattle.wg_codes.proofs.gamma.word_in.Goals as goal

pub overflow_sub-result-2 : goal.overflow_sub-result-2
overflow_sub-result-2 c =
    let n = window_number c.args.window _ c.ranges.window.fits refl (omega arith) in
    omega arith

pub returns : goal.returns
returns c = record {
  few = omega arith;
  size = fast_place c.args.window _ c.ranges.window.fits refl (omega arith);
  read = λ z front long. fast_found z c.args.window _ c.args.most c.ranges.window.fits refl (omega arith) (omega arith) c.requires (front_agrees _ z front) long;
}
