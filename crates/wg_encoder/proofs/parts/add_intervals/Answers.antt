use Rattle.std.proofs.Common.{◌*◌, arith}
use Rattle.std.proofs.lemmas.List.{length-drop}
use Rattle.wg_encoder.proofs.Adding.{low_here, intervals_more, intervals_done}
use Rattle.wg_encoder.proofs.parts.add_intervals.Goals as goal

pub loop-index-preserved : goal.loop-index-preserved
loop-index-preserved c = record {
  low = (low_here c.args.ends.now c.loop-index.index (omega (arith, c.loop-index-test.true)) c.loop-index.invariant.low).2;
  reaching = λ runs e. intervals_more c.args.page c.args.least _ _ _ _ c.loop-index.past c.args.ends.now c.loop-index.index c.stored_gap.result c.saturating_sub.result (omega (arith, c.loop-index-test.true))
      (c.loop-index.invariant.reaching runs e) c.stored_gap.ensures (omega arith) c.in_ok-add.ensures c.in_ok-add-2.ensures;
}

pub returns : goal.returns
returns c runs e = intervals_done c.args.page c.args.least _ _ c.loop-index.past _ (omega (arith, length-drop (2 * c.loop-index.index) c.args.ends.now)) (c.loop-index.invariant.reaching runs e)
