use Rattle.std.proofs.Common.{ap, ◌∙◌, arith}
use Rattle.wg_vectors.specs.Generated.{Drafted}
use Rattle.wg_vectors.proofs.Loops.{numbers_on}
use Rattle.wg_vectors.proofs.drafting.Draft.add_interval.Goals as goal

pub loop-successor-preserved : goal.loop-successor-preserved
loop-successor-preserved c = record {
  ascends = c.add.ensures.ascends;
  few = omega arith;
  rest = numbers_on c.min-successor-end.result c.loop-successor.successor c.loop-successor.self.list c.add.new.self.list c.loop-successor-test.true (ap (λ (d : Drafted). d.list) c.add.ensures.after)
      ∙ c.loop-successor.invariant.rest;
  state = ap (λ (d : Drafted). d.state) c.add.ensures.after ∙ c.loop-successor.invariant.state;
}
