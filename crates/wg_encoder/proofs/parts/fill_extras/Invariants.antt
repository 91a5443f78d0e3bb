use Rattle.wg_encoder.proofs.Adding.{Leaving}
use Rattle.wg_encoder.proofs.parts.fill_extras.Given as goal

abbrev pub invariant-loop-y : goal.invariant-loop-y
invariant-loop-y l = Leaving l.list l.referenced l.members l.y-index l.others
