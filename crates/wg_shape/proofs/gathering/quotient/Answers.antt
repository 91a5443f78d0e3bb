use Rattle.std.proofs.Common.{◌∙◌, ap, sym}
use Rattle.wg_shape.specs.Classes.{Classes, whole}
use Rattle.wg_shape.proofs.Gathered.{one_range, is_one, has_fewer}
use Rattle.wg_shape.proofs.gathering.quotient.Goals as goal

pub gather-requires-clause-to : goal.gather-requires-clause-to
gather-requires-clause-to c =
    let e = c.in_ok-ranges.ensures in
    one_range c.in_ok-ranges.ranges.pages e.limits c.in_ok-ranges.ranges.to c.advance.new.self.to e.to c.advance.ensures.within c.in_ok-advance.ensures.enough
    ∙ ap (λ (p : Classes). p.count) (sym c.advance.ensures.pages)

pub returns-clause-quotient : goal.returns-clause-quotient
returns-clause-quotient c =
    let e = c.in_ok-ranges.ensures in
    is_one _ e.limits _ _ _ _ (e.graph ∙ c.new-lists.ensures.graph) (e.classes ∙ c.as_slice.ensures) e.count (c.in_ok-made.ensures ∙ ap whole c.advance.ensures.pages)

pub returns-clause-fewer : goal.returns-clause-fewer
returns-clause-fewer c =
    let e = c.in_ok-ranges.ensures in
    has_fewer _ e.limits _ _ _ _ (e.graph ∙ c.new-lists.ensures.graph) (e.classes ∙ c.as_slice.ensures) e.count (c.in_ok-made.ensures ∙ ap whole c.advance.ensures.pages)
