use Rattle.std.proofs.Common.{◌∙◌, ◌-◌, get_or, refl, arith}
use Rattle.std.proofs.lemmas.List.{length-set}
use Rattle.wg_graph.proofs.Moved.{lifted_none, lifted_more, all_below}
use Rattle.wg_graph.proofs.pieces.copy_above.Goals as goal

pub above-init : goal.above-init
above-init c = record { within = omega arith; length = refl; lifted = lifted_none c.args.bound c.args.from c.args.to c.args.numbers.now (omega arith) }

pub above-preserved : goal.above-preserved
above-preserved c = record {
  within = omega arith;
  length = length-set c.above.numbers (c.args.to - 1 - c.above.done) (get_or c.above.numbers (c.args.from - 1 - c.above.done) 0) ∙ c.above.invariant.length;
  lifted = lifted_more c.args.bound c.args.from c.args.to c.above.done c.args.numbers.now c.above.numbers (omega arith) (omega (arith, c.above.invariant.length)) c.above.invariant.length (omega arith) (omega arith) c.requires.ascends c.above.invariant.lifted;
}

pub returns-after-above-clause-below : goal.returns-after-above-clause-below
returns-after-above-clause-below c = all_below c.args.bound c.args.from c.above.done c.args.numbers.now c.above.numbers (omega arith) (omega arith) c.above.invariant.lifted.kept (λ here. omega arith) c.requires.ascends

pub returns-else-numbers-from-clause-below : goal.returns-else-numbers-from-clause-below
returns-else-numbers-from-clause-below c = all_below c.args.bound c.args.from c.above.done c.args.numbers.now c.above.numbers (omega arith) (omega arith) c.above.invariant.lifted.kept (λ here. omega arith) c.requires.ascends
