use Rattle.wg_codes.proofs.any.write.Goals as goal

pub returns-in-Zeta-clause-sends : goal.returns-in-Zeta-clause-sends
returns-in-Zeta-clause-sends g c = rw c.in-Zeta.is c.write-in-Zeta.ensures.sends

pub returns-in-Unary-clause-sends : goal.returns-in-Unary-clause-sends
returns-in-Unary-clause-sends g c = rw c.in-Unary.is c.write.ensures.sends

pub returns-in-Gamma-clause-sends : goal.returns-in-Gamma-clause-sends
returns-in-Gamma-clause-sends g c = rw c.in-Gamma.is c.write-in-Gamma.ensures.sends

pub returns-in-Delta-clause-sends : goal.returns-in-Delta-clause-sends
returns-in-Delta-clause-sends g c = rw c.in-Delta.is c.write-in-Delta.ensures.sends

pub returns-in-Nibble-clause-sends : goal.returns-in-Nibble-clause-sends
returns-in-Nibble-clause-sends g c = rw c.in-Nibble.is c.write-in-Nibble.ensures.sends
