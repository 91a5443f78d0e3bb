use Rattle.std.proofs.Common.{arith}
use Rattle.wg_rank.proofs.Settled.{table_more, table_left}
use Rattle.wg_rank.proofs.settling.cut.Goals as goal

pub loop-v-preserved : goal.loop-v-preserved
loop-v-preserved c = record {
  done = table_more c.loop-v.v c.loop-v.high _ _ (omega arith) (omega (arith, c.min.ensures, c.loop-v.invariant.left c.loop-v.v (omega arith))) c.loop-v.invariant.done;
  left = table_left c.loop-v.v c.loop-v.high c.args.high.now _ c.loop-v.invariant.left;
}

pub returns : goal.returns
returns c = λ v l. c.loop-v.invariant.done v (omega arith)
