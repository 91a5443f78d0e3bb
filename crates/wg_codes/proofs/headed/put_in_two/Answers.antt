use Rattle.std.proofs.Common.{◌+◌, arith, ap}
use Rattle.std.proofs.lemmas.Nat.{one_shl}
use Rattle.wg_bits.proofs.Sending.{sends_as, sends_then, sends_cut}
use Rattle.wg_codes.proofs.Writing.{headed_in_two}
use Rattle.wg_codes.proofs.headed.put_in_two.Goals as goal

pub put-requires-clause-value : goal.put-requires-clause-value
put-requires-clause-value g c =
    (headed_in_two c.args.head c.args.width c.args.field _ c.requires.field (ap (λ p. p + c.args.field) (one_shl c.args.width 64 (omega arith)))).1

pub returns-in-Ok-clause-sends : goal.returns-in-Ok-clause-sends
returns-in-Ok-clause-sends g c =
    sends_as _ _ _ _ _ _ _ _ _ (headed_in_two c.args.head c.args.width c.args.field _ c.requires.field (ap (λ p. p + c.args.field) (one_shl c.args.width 64 (omega arith)))).0
    (sends_then _ _ _ _ _ _ _ _ _ _ _ _ c.in-Ok.ensures.sends c.put.ensures.sends)

pub returns-in-Err-clause-sends : goal.returns-in-Err-clause-sends
returns-in-Err-clause-sends g c = sends_as _ _ _ _ _ _ _ _ _ (headed_in_two c.args.head c.args.width c.args.field _ c.requires.field (ap (λ p. p + c.args.field) (one_shl c.args.width 64 (omega arith)))).0 (sends_cut _ _ _ _ _ _ _ _ _ _ c.in-Err.ensures.sends)
