use Rattle.std.proofs.Common.{◌+◌, arith, ap}
use Rattle.std.proofs.lemmas.Nat.{one_shl}
use Rattle.wg_bits.proofs.Sending.{sends_as}
use Rattle.wg_codes.proofs.Writing.{headed_in_one}
use Rattle.wg_codes.proofs.headed.put_headed.Goals as goal

pub put-requires-clause-value : goal.put-requires-clause-value
put-requires-clause-value g c = (headed_in_one c.args.head c.args.width c.args.field _ c.requires.field (ap (λ p. p + c.args.field) (one_shl c.args.width 64 (omega arith)))).1

pub returns-then-head-width-clause-sends : goal.returns-then-head-width-clause-sends
returns-then-head-width-clause-sends g c = sends_as _ _ _ _ _ _ _ _ _ (headed_in_one c.args.head c.args.width c.args.field _ c.requires.field (ap (λ p. p + c.args.field) (one_shl c.args.width 64 (omega arith)))).0 c.put.ensures.sends
