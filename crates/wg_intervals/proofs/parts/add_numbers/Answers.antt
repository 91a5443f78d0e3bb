use Rattle.wg_intervals.proofs.Splits.{numbers_more}
use Rattle.wg_intervals.proofs.parts.add_numbers.Goals as goal

pub loop-index-preserved : goal.loop-index-preserved
loop-index-preserved c = numbers_more c.args.list.now c.loop-index.list c.push.new.self c.args.run.left c.loop-index.index c.loop-index.invariant c.in_ok-push.ensures.ok
