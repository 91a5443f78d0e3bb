use Rattle.wg_bits.proofs.Sending.{sends_as}
use Rattle.wg_codes.proofs.Writing.{unary_put}
use Rattle.wg_codes.proofs.unary.write.Goals as goal

pub returns-clause-sends : goal.returns-clause-sends
returns-clause-sends g c = sends_as _ _ _ _ _ _ _ _ _ (unary_put c.args.v) c.put_headed.ensures.sends
