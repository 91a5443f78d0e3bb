use Rattle.std.proofs.Common.{◌∙◌}
use Rattle.wg_marks.proofs.Places.{ascends-places, gaps-word, gaps-few}
use Rattle.wg_marks.proofs.blocks.BlocksLeft.of.Goals as goal

pub invariant_of-result : goal.invariant_of-result
invariant_of-result c = ascends-places 64 0 c.changes.result

pub returns-clause-blocks : goal.returns-clause-blocks
returns-clause-blocks c = gaps-word c.args.width c.changes.result c.requires.most c.changes.ensures.small ∙ c.changes.ensures.gaps

pub returns-clause-few : goal.returns-clause-few
returns-clause-few c = gaps-few 64 0 0 c.changes.result
