use Rattle.std.proofs.Common.{arith, length}
use Rattle.wg_rank.specs.Intervals.{by_page}
use Rattle.wg_rank.specs.Weights.{weights_or_ones}
use Rattle.wg_rank.specs.declared.limits.TheConstants.{UNITS}
use Rattle.wg_rank.proofs.Rounds.{all_within_total, settled_lower}
use Rattle.wg_rank.proofs.Judgements.{first_of_round}
use Rattle.wg_rank.proofs.judging.first_fall.Goals as goal

pub gather_low-dangling-requires-clause-units : goal.gather_low-dangling-requires-clause-units
gather_low-dangling-requires-clause-units g c = all_within_total UNITS _ c.requires.claim.within

pub returns-clause-first : goal.returns-clause-first
returns-clause-first g c =
    let graph = g.L.Lists.graph c.args.lists.now in
    first_of_round graph c.args.damping (length c.args.low.now) _ _ c.args.low.now c.first_smaller.result (omega arith)
    (settled_lower graph c.args.damping (length c.args.low.now) (by_page (weights_or_ones (length c.args.low.now) c.args.weights.now)) (by_page c.args.low.now)
    (by_page c.gather_low-dangling.new.inflows) c.gather_low-dangling.result (omega arith)
    (λ v i. c.gather_low-dangling.ensures.flow v (omega arith)) c.gather_low-dangling.ensures.dangling)
    c.first_smaller.ensures
