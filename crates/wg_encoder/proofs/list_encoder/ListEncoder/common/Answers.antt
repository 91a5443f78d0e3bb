use Rattle.std.proofs.Common.{subst}
use Rattle.wg_grammar.specs.Context.{referenced}
use Rattle.wg_marks.specs.Common.{IsCommon}
use Rattle.wg_encoder.proofs.list_encoder.ListEncoder.common.Goals as goal

pub returns-in-Some : goal.returns-in-Some
returns-in-Some c list same x is =
    subst (λ xs. IsCommon xs (referenced c.args.self.now.next.behind c.args.r) x) (same c.in-Some.marked c.in-Some.is) (subst (λ rs. IsCommon c.in-Some.marked.now rs x) c.referenced_list.ensures.value (c.common.ensures x is))
