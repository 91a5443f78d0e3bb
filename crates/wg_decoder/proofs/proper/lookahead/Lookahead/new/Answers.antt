use Rattle.wg_decoder.proofs.ProperLemmas.Near.{near_all}
use Rattle.wg_decoder.proofs.proper.lookahead.Lookahead.new.Goals as goal

pub invariant_of-result : goal.invariant_of-result
invariant_of-result c = near_all _ _ c.peek-near.ensures
