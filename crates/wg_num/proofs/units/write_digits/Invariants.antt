use Rattle.wg_num.proofs.UnitsLemmas.{AreWritten}
use Rattle.wg_num.proofs.units.write_digits.Given as goal

abbrev pub invariant-loop-index : goal.invariant-loop-index
invariant-loop-index l = AreWritten l.value l.rest l.index l.to
