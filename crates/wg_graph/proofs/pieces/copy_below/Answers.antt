use Rattle.std.proofs.Common.{◌∙◌, ◌+◌, get_or, refl, arith}
use Rattle.std.proofs.lemmas.List.{length-set}
use Rattle.wg_graph.proofs.Moved.{passed_none, passed_more, last_above}
use Rattle.wg_graph.proofs.pieces.copy_below.Goals as goal

pub below-init : goal.below-init
below-init c = record { within = omega arith; length = refl; passed = passed_none c.args.bound c.args.to c.args.from c.args.numbers.now }

pub below-preserved : goal.below-preserved
below-preserved c =
    let long = length-set c.below.numbers (c.args.to + c.below.done) (get_or c.below.numbers (c.args.from + c.below.done) 0) in
    record {
      within = omega (arith, long);
      length = long ∙ c.below.invariant.length;
      passed = passed_more c.args.bound c.args.to c.args.from c.below.done c.args.numbers.now c.below.numbers (omega arith) (omega arith) c.below.invariant.length (omega arith) c.below.invariant.passed;
    }

pub returns-after-below-clause-last : goal.returns-after-below-clause-last
returns-after-below-clause-last c = last_above c.args.bound c.args.from c.below.done c.args.numbers.now c.below.numbers c.below.invariant.passed.kept c.below.invariant.length (λ here. omega arith)

pub returns-else-numbers-from-clause-last : goal.returns-else-numbers-from-clause-last
returns-else-numbers-from-clause-last c = last_above c.args.bound c.args.from c.below.done c.args.numbers.now c.below.numbers c.below.invariant.passed.kept c.below.invariant.length (λ here. omega arith)
