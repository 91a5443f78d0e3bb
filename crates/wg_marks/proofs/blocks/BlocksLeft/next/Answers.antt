use Rattle.std.proofs.Common.{◌∙◌, ap, sym, arith}
use Rattle.wg_marks.specs.Masks.{gaps_from}
use Rattle.wg_marks.proofs.Places.{next-within, next-ascends, next-gaps, none-left}
use Rattle.wg_marks.proofs.blocks.BlocksLeft.next.Goals as goal

pub overflow_sub-block : goal.overflow_sub-block
overflow_sub-block c = next-within c.self.inside.last c.self.inside.left (omega arith) c.self.ranges.0.1 c.self.invariant

pub invariant_of-self : goal.invariant_of-self
invariant_of-self c = next-ascends c.self.inside.last c.self.inside.left (omega arith) c.self.ranges.0.1 c.self.invariant

pub returns-clause-split : goal.returns-clause-split
returns-clause-split c = sym c.self.view_is ∙ next-gaps c.self.inside.last c.self.inside.left (omega arith) c.self.ranges.0.1 c.from.result c.from.ensures

pub returns-then-self-eq0-clause-end : goal.returns-then-self-eq0-clause-end
returns-then-self-eq0-clause-end c _ = sym c.self.view_is ∙ ap (gaps_from c.self.inside.last) (none-left c.self.inside.left c.if-self-eq0.true)
