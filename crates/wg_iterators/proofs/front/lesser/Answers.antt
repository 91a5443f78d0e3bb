use Rattle.wg_iterators.proofs.front.lesser.Goals as goal

pub returns-then-y-z : goal.returns-then-y-z
returns-then-y-z c = (c.in-Some.is, tt, rw c.in-Some-residual-2.is c.if-y-z.true)
