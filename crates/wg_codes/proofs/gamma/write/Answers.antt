use Rattle.std.proofs.Common.{arith}
use Rattle.std.proofs.lemmas.Nat.{one_shl}
use Rattle.wg_bits.proofs.Sending.{sends_as}
use Rattle.wg_codes.proofs.Writing.{field_of, gamma_put}
use Rattle.wg_codes.proofs.gamma.write.Goals as goal

pub overflow_sub-low : goal.overflow_sub-low
overflow_sub-low g c = (field_of c.args.v c.highest_one-index.result _ c.requires.value c.highest_one-index.ensures.index (one_shl c.highest_one-index.result 64 (omega arith))).0

pub put_headed-requires-clause-field : goal.put_headed-requires-clause-field
put_headed-requires-clause-field g c = (field_of c.args.v c.highest_one-index.result _ c.requires.value c.highest_one-index.ensures.index (one_shl c.highest_one-index.result 64 (omega arith))).1

pub returns-clause-sends : goal.returns-clause-sends
returns-clause-sends g c =
    sends_as _ _ _ _ _ _ _ _ _ (gamma_put c.args.v c.highest_one-index.result _ c.highest_one-index.ensures.index (field_of c.args.v c.highest_one-index.result _ c.requires.value c.highest_one-index.ensures.index (one_shl c.highest_one-index.result 64 (omega arith))).3) c.put_headed.ensures.sends
