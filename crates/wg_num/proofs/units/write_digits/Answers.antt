use Rattle.std.proofs.Common.{◌-◌, subst, arith}
use Rattle.wg_num.proofs.UnitsLemmas.{AreWritten, written_next}
use Rattle.wg_num.proofs.units.write_digits.Goals as goal

pub loop-index-preserved : goal.loop-index-preserved
loop-index-preserved c =
    written_next c.args.value c.loop-index.rest (c.loop-index.index - 1) c.loop-index.to (omega arith)
    (subst (λ p. AreWritten c.args.value c.loop-index.rest p c.loop-index.to) (omega arith) c.loop-index.invariant)
