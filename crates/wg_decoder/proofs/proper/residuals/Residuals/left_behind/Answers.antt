use Rattle.std.proofs.Common.{Bool, List, length, sym, ap, ◌∙◌}
use Rattle.wg_decoder.specs.Proper.Remaining.{Remaining}
use Rattle.wg_decoder.proofs.ProperLemmas.StandingResiduals.{behind_none}
use Rattle.wg_decoder.proofs.proper.residuals.Residuals.left_behind.Goals as goal

pub returns : goal.returns
returns c =
    let s = c.self.inside in
    let none = ap (λ (r : Remaining). r.list) c.self.view_is ∙ c.requires in
    c.remaining.ensures ∙ ap (λ (l : List Bool). length l) (sym (behind_none s.code s.page s.last s.unread _ none) ∙ ap (λ (r : Remaining). r.behind) c.self.view_is)
