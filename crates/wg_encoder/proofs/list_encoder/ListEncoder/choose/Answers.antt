use Rattle.std.proofs.Common.{arith}
use Rattle.wg_encoder.proofs.Choosing.{best_chosen}
use Rattle.wg_encoder.proofs.list_encoder.ListEncoder.choose.Goals as goal

pub loop-r-preserved : goal.loop-r-preserved
loop-r-preserved c = c.or-best.ensures _ _ _ c.loop-r.invariant c.offer_below.ensures

pub returns : goal.returns
returns c =
    (best_chosen c.args.self.now.params c.args.self.now.next c.args.list.now c.loop-r.r c.loop-r.best (omega (arith, c.loop-r-test.false, c.reach-r-end.ensures.value)) c.loop-r.invariant, c.loop-r.invariant.bits)
