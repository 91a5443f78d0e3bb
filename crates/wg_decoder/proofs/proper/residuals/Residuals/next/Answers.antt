use Rattle.std.proofs.Common.{sym, ap, ◌∙◌, arith}
use Rattle.wg_decoder.specs.Proper.Remaining.{Remaining}
use Rattle.wg_decoder.proofs.ProperLemmas.StandingResiduals.{none_at, first_word, means_page, left_behind, given, behind_same}
use Rattle.wg_decoder.proofs.proper.residuals.Residuals.next.Goals as goal

pub returns-then-self-eq0-clause-gives : goal.returns-then-self-eq0-clause-gives
returns-then-self-eq0-clause-gives c =
    let none = sym (ap (λ (r : Remaining). r.list) c.self.view_is) ∙ none_at c.self.inside.code c.self.inside.page c.self.inside.last c.self.inside.unread _ (omega arith) in (none, none)

pub value-requires-clause-stands : goal.value-requires-clause-stands
value-requires-clause-stands c = first_word c.self.inside.code c.self.inside.page c.self.inside.last c.self.inside.unread _ (omega arith) c.self.invariant.2

pub number_of_gap-number-requires-clause-means : goal.number_of_gap-number-requires-clause-means
number_of_gap-number-requires-clause-means c = means_page c.self.inside.code c.self.inside.page c.self.inside.last c.self.inside.unread _ _ c.value.result c.value.ensures.exact (omega arith) c.self.invariant.2

pub invariant_of-self : goal.invariant_of-self
invariant_of-self c = (c.self.invariant.0, c.self.invariant.1, left_behind c.self.inside.code c.self.inside.page c.self.inside.last c.self.inside.unread _ _ c.value.result c.number_of_gap-number.result c.value.ensures.exact (omega arith) c.number_of_gap-number.ensures c.self.invariant.2)

pub returns-clause-gives : goal.returns-clause-gives
returns-clause-gives c = sym (ap (λ (r : Remaining). r.list) c.self.view_is) ∙ given c.self.inside.code c.self.invariant.0 c.self.inside.page c.self.inside.last c.self.inside.unread _ _ c.value.result c.number_of_gap-number.result c.value.ensures.exact (omega arith) c.number_of_gap-number.ensures c.self.invariant.2

pub returns-clause-behind : goal.returns-clause-behind
returns-clause-behind c = sym (behind_same c.self.inside.code c.self.invariant.0 c.self.inside.page c.self.inside.last c.self.inside.unread _ _ c.value.result c.value.ensures.exact (omega arith) c.self.invariant.2) ∙ ap (λ (r : Remaining). r.behind) c.self.view_is
