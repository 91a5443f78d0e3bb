use Rattle.std.proofs.Common.{arith}
use Rattle.wg_io.proofs.HeldLemmas.{found_at, other_at, all_other}
use Rattle.wg_io.proofs.held.index_of.Goals as goal

pub returns-then-eq-clause-found : goal.returns-then-eq-clause-found
returns-then-eq-clause-found c =
    found_at c.args.helds.now c.loop-index.index c.index-helds-index.result c.args.name.now c.as_str.result.now c.eq.result
    (omega (arith, c.loop-index-test.true)) c.index-helds-index.is c.as_str.ensures.value c.if-eq.true c.eq.ensures c.loop-index.invariant

pub loop-index-preserved : goal.loop-index-preserved
loop-index-preserved c =
    other_at c.args.helds.now c.loop-index.index c.index-helds-index.result c.args.name.now c.as_str.result.now c.eq.result
    (omega (arith, c.loop-index-test.true)) c.index-helds-index.is c.as_str.ensures.value c.if-eq.false c.eq.ensures c.loop-index.invariant

pub returns-clause-missing : goal.returns-clause-missing
returns-clause-missing c = all_other c.args.name.now c.args.helds.now c.loop-index.index c.loop-index-test.false c.loop-index.invariant
