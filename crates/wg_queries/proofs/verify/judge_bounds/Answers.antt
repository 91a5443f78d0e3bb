use Rattle.std.proofs.Common.{rules, ◌≡◌, ◌∙◌, ℕ, List, Option, Result, Ok, Err, inl, ap, option_copied, subst, sym}
use Rattle.wg_rank.specs.{Intervals.by_page, Rank.EnclosesStationary, Claims.IsJudged, Claims.weights_for}
use Rattle.wg_rank.specs.{declared.fault.JudgeError.JudgeError, declared.fault.JudgeError.TheVariants.Falls}
use Rattle.wg_outcomes.specs.Judged.{status_of}
use Rattle.wg_outcomes.proofs.VerifyLemmas.{goes_on_with_gap, is_refused_at}
use Rattle.wg_queries.proofs.verify.judge_bounds.Goals as goal

pub returns-in-Ok-clause-steps : goal.returns-in-Ok-clause-steps
returns-in-Ok-clause-steps g c =
    let graph = g.L.Lists.graph c.args.lists.now in
    let claim = c.args.certificate.now in
    let same : option_copied c.as_ref.result ≡ c.args.weights.now = search rules in
    goes_on_with_gap graph claim c.args.weights.now c.in-Ok.left
    (subst (λ (o : Option (List ℕ)). IsJudged graph claim (by_page (weights_for claim o)) (Ok c.in-Ok.left)) same c.in-Ok.ensures.judged)

pub returns-in-Ok-clause-leaves : goal.returns-in-Ok-clause-leaves
returns-in-Ok-clause-leaves g c =
    let graph = g.L.Lists.graph c.args.lists.now in
    let claim = c.args.certificate.now in
    let left = c.in-Ok.left in
    let same : option_copied c.as_ref.result ≡ c.args.weights.now = search rules in
    let judged = subst (λ (o : Option (List ℕ)). IsJudged graph claim (by_page (weights_for claim o)) (Ok left)) same c.in-Ok.ensures.judged in
    (judged.1, subst (λ (o : Option (List ℕ)). EnclosesStationary graph claim.damping (by_page (weights_for claim o)) (by_page claim.low) left) same c.in-Ok.ensures.enclosed)

pub returns-in-Err-Falls-clause-steps : goal.returns-in-Err-Falls-clause-steps
returns-in-Err-Falls-clause-steps g c = λ next.
    let graph = g.L.Lists.graph c.args.lists.now in
    let claim = c.args.certificate.now in
    let page = c.in-Err-Falls.page in
    let same : option_copied c.as_ref.result ≡ c.args.weights.now = search rules in
    let judged = subst (λ (o : Option (List ℕ)). IsJudged graph claim (by_page (weights_for claim o)) c.judge.result) same c.judge.ensures.judged in
    let is : c.judge.result ≡ Err (Falls page) = search rules in
    let falls : IsJudged graph claim (by_page (weights_for claim c.args.weights.now)) (Err (Falls page)) =
    subst (λ (r : Result ℕ JudgeError). IsJudged graph claim (by_page (weights_for claim c.args.weights.now)) r) is judged in
    inl (c.of.ensures.status ∙ sym (ap status_of (is_refused_at graph claim c.args.weights.now page falls next)))
