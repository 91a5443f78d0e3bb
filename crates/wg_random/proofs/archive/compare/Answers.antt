use Rattle.wg_random.proofs.Matching.{same_places}
use Rattle.wg_random.proofs.archive.compare.Goals as goal

pub returns-in-None-clause-same : goal.returns-in-None-clause-same
returns-in-None-clause-same c = same_places _ _ c.len.ensures.places c.len-2.ensures.places c.requires c.in-None.ensures.none
