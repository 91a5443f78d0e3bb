use Rattle.wg_bits.proofs.Sending.{sends_kept, sends_all}
use Rattle.wg_bits.proofs.buffer.Buffer.put.Goals as goal

pub returns-then-self-gt-FULL-clause-sends : goal.returns-then-self-gt-FULL-clause-sends
returns-then-self-gt-FULL-clause-sends g c = sends_all _ _ _ _ _ _ c.send.new.self _ _ c.push_word.ensures.bits c.send.ensures.empty c.send.ensures.sends

pub returns-clause-sends : goal.returns-clause-sends
returns-clause-sends g c = sends_kept _ _ _ _ _ _ _ c.push_word.ensures.bits
