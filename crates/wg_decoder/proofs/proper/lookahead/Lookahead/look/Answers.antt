use Rattle.wg_decoder.proofs.ProperLemmas.Near.{near_all}
use Rattle.wg_decoder.proofs.proper.lookahead.Lookahead.look.Goals as goal

pub invariant_of-self : goal.invariant_of-self
invariant_of-self c = near_all _ _ c.peek-self-inside.ensures
