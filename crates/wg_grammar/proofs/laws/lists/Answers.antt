use Rattle.wg_grammar.specs.SoFar.{nothing_yet}
use Rattle.wg_grammar.proofs.Orderly.{orderly_first, orderly_fields, never_more}
use Rattle.wg_grammar.proofs.OneGraph.{lists_ascend}
use Rattle.wg_grammar.proofs.laws.lists.Goals as goal

pub returns-clause-ascend : goal.returns-clause-ascend
returns-clause-ascend c = lists_ascend

pub returns-clause-never_too_many : goal.returns-clause-never_too_many
returns-clause-never_too_many c = λ p context bits start vs s at fields is. never_more p context s is (orderly_fields p context bits nothing_yet start vs s at fields (orderly_first p context))
