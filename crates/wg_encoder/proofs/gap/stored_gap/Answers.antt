use Rattle.std.proofs.Common.{arith}
use Rattle.wg_encoder.proofs.gap.stored_gap.Goals as goal

pub returns-in-Some : goal.returns-in-Some
returns-in-Some c = rw c.in-Some.is (omega arith)
