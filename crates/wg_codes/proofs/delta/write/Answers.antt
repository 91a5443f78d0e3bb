use Rattle.std.proofs.Common.{◌+◌, [], arith, ap}
use Rattle.std.proofs.lemmas.Nat.{one_shl}
use Rattle.wg_bits.specs.Bits.{low_bits}
use Rattle.wg_bits.proofs.Sending.{sends_as, sends_then, sends_cut, sends_exit}
use Rattle.wg_codes.proofs.Writing.{field_of, delta_put}
use Rattle.wg_codes.proofs.delta.write.Goals as goal

pub overflow_sub-v : goal.overflow_sub-v
overflow_sub-v g c = (field_of c.args.v c.highest_one-index.result _ c.requires.value c.highest_one-index.ensures.index (one_shl c.highest_one-index.result 64 (omega arith))).0

pub put-requires-clause-value : goal.put-requires-clause-value
put-requires-clause-value g c = (field_of c.args.v c.highest_one-index.result _ c.requires.value c.highest_one-index.ensures.index (one_shl c.highest_one-index.result 64 (omega arith))).1

pub returns-clause-sends : goal.returns-clause-sends
returns-clause-sends g c =
    sends_as _ _ _ _ _ _ _ _ _ (delta_put c.args.v c.highest_one-index.result _ c.highest_one-index.ensures.index (field_of c.args.v c.highest_one-index.result _ c.requires.value c.highest_one-index.ensures.index (one_shl c.highest_one-index.result 64 (omega arith))).3)
    (sends_then _ _ _ _ _ _ _ _ _ _ _ _ c.in_ok-write.ensures.sends c.put.ensures.sends)

pub returns-in_err-write-clause-sends : goal.returns-in_err-write-clause-sends
returns-in_err-write-clause-sends g c =
    sends_exit _ _ _ _ _ _ [] _ _ _ c.from_residual.ensures.1
    (sends_as _ _ _ _ _ _ _ _ _
    (delta_put c.args.v c.highest_one-index.result (c.args.v + 1) c.highest_one-index.ensures.index (ap (λ k. low_bits k (c.args.v + 1)) c.highest_one-index.ensures.index))
    (sends_cut _ _ _ _ _ _ _ _ _ _ c.in_err-write.ensures.sends))
