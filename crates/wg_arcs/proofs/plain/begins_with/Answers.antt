use Rattle.std.proofs.Common.{refl}
use Rattle.wg_arcs.proofs.LineLemmas.{same_front, same_more}
use Rattle.wg_arcs.proofs.Starts.{begins}
use Rattle.wg_arcs.proofs.plain.begins_with.Goals as goal

pub loop-index-preserved : goal.loop-index-preserved
loop-index-preserved c =
    same_more c.args.text.now c.args.front.now c.loop-index.index c.loop-index.invariant c.if-text-index.false
    c.loop-index-test.true c.if-text-front.false

pub returns : goal.returns
returns c = record {
  front = λ t.
      same_front c.args.text.now c.args.front.now c.loop-index.index c.loop-index.invariant c.loop-index-test.false
      c.loop-index.auto.index-end;
  within = λ t. c.if-text-front.false;
}

pub returns-then-front-le8-clause-front : goal.returns-then-front-le8-clause-front
returns-then-front-le8-clause-front c = λ t.
    begins c.args.text.now c.args.front.now c.if-front-ge4.true c.if-front-le8.true c.if-text-front.false
    (c.if-not-same_four.ensures refl) (c.same_four-then-front-le8.ensures t)
