use Rattle.std.proofs.Common.{rules, ◌≡◌, ℕ, List, Option, Result, Err, inr, refl, option_copied, subst}
use Rattle.wg_rank.specs.Intervals.{by_page}
use Rattle.wg_rank.specs.Claims.{IsJudged, weights_for}
use Rattle.wg_rank.specs.declared.fault.JudgeError.{JudgeError}
use Rattle.wg_rank.specs.declared.fault.JudgeError.TheVariants.{Falls}
use Rattle.wg_memory.proofs.verifying.judged.Goals as goal

pub returns-in-Err-Falls-clause-why : goal.returns-in-Err-Falls-clause-why
returns-in-Err-Falls-clause-why g c =
    let graph = g.L.Lists.graph c.args.lists.now in
    let claim = c.args.claim.now in
    let page = c.in-Err-Falls.page in
    let same : option_copied c.as_ref.result ≡ c.args.weights.now = search rules in
    let judged = subst (λ (o : Option (List ℕ)). IsJudged graph claim (by_page (weights_for claim o)) c.judge.result) same c.judge.ensures.judged in
    let is : c.judge.result ≡ Err (Falls page) = search rules in
    inr (page, refl, subst (λ (r : Result ℕ JudgeError). IsJudged graph claim (by_page (weights_for claim c.args.weights.now)) r) is judged)
