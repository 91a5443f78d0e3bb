use Rattle.std.proofs.Common.{length, ap, arith}
use Rattle.std.proofs.lemmas.Result.{IfOk-weaker}
use Rattle.wg_bits.proofs.Words.{length-bits_of}
use Rattle.wg_source.proofs.file_source.FileSourceSeek.go_to.Goals as goal

pub returns-clause-past : goal.returns-clause-past
returns-clause-past g c = λ bits r.
    IfOk-weaker c.go_to.result _ _ (λ there past no. omega (arith, past no, length-bits_of r.1.0, ap length r.1.3)) (c.go_to.ensures.past r.0 r.1.0 r.1.1)
