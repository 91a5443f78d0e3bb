use Rattle.std.proofs.Common.{arith}
use Rattle.std.proofs.lemmas.Result.{on_ok_weaker}
use Rattle.wg_intervals.proofs.Splits.{begun, first_above, more, intervals_done, residuals_done, ends_low}
use Rattle.wg_intervals.proofs.parts.Split.refill.Goals as goal

pub loop-number-init : goal.loop-number-init
loop-number-init c = record {
  short = omega (arith, c.none-run.ensures.1);
  low = omega (arith, c.none-run.ensures.0, c.none-run.ensures.1);
  splitting = begun c.args.interval c.args.extras.now c.none-run.result _ _ c.none-run.ensures c.clear.ensures c.clear-2.ensures c.requires;
}

pub step-requires-clause-greater : goal.step-requires-clause-greater
step-requires-clause-greater c = first_above c.args.interval c.args.extras.now c.loop-number.number-index c.loop-number.run _ _ c.loop-number-test.true c.loop-number.invariant.splitting

pub add-requires : goal.add-requires
add-requires c = ends_low _ c.loop-number.run c.step.ensures.ended c.loop-number.invariant.low

pub loop-number-preserved : goal.loop-number-preserved
loop-number-preserved c = record {
  short = omega (arith, c.step.ensures.longer, c.loop-number.invariant.short);
  low = omega (arith, c.step.ensures.end, c.type_inv.extras c.loop-number.number-index);
  splitting = more c.args.interval c.args.extras.now c.loop-number.number-index c.loop-number.run c.step.new.self c.step.result _ _ _ _ c.loop-number-test.true
      c.loop-number.invariant.splitting c.step.ensures.runs c.step.ensures.end c.in_ok-add.ensures.intervals c.in_ok-add.ensures.residuals;
}

pub add-requires-2 : goal.add-requires-2
add-requires-2 c = ends_low _ c.loop-number.run c.last.ensures.same c.loop-number.invariant.low

pub returns-clause-intervals : goal.returns-clause-intervals
returns-clause-intervals c =
    on_ok_weaker _ (intervals_done c.args.interval c.args.extras.now c.loop-number.number-index c.loop-number.run c.last.result _ _ _ (omega arith)
    c.loop-number.invariant.splitting c.last.ensures.runs) c.add-2.ensures.intervals

pub returns-clause-residuals : goal.returns-clause-residuals
returns-clause-residuals c =
    on_ok_weaker _ (residuals_done c.args.interval c.args.extras.now c.loop-number.number-index c.loop-number.run c.last.result _ _ _ (omega arith)
    c.loop-number.invariant.splitting c.last.ensures.runs) c.add-2.ensures.residuals
