-- The ranking that was printed is that of the graph which the files hold.
use Rattle.std.proofs.Common.{◌≡◌, ◌≤◌, ℕ, List, ◌++◌, Option, inl, inr, sym, ◌∙◌, ap}
use Rattle.wg_params.specs.declared.limits.TheConstants.{MOST_DAMPING, MOST_ROUNDS}
use Rattle.wg_graph.specs.Digraph.{Digraph}
use Rattle.wg_words.specs.{declared.jobs.Job.TheVariants.Rank, declared.jobs.RankJob.RankJob}
use Rattle.wg_outcomes.specs.{Answers.Answers, Commands.judged, Commands.ranks, Readings.Readings}
use Rattle.wg_outcomes.specs.Judged.{Judged, output_of, status_of, weights_then}
use Rattle.wg_outcomes.specs.{Ranked.PrintsProvenRanking, Ranked.bounds_for, declared.status.Input.Input}
use Rattle.wg_outcomes.specs.{declared.status.Input.TheVariants.Weights, declared.status.Status.TheVariants.Done}
use Rattle.wg_laws.proofs.{HeldLemmas.graph_behind, RoundsLemmas.text_ranked, WeightsLemmas.weights_behind}
use Rattle.wg_outcomes.proofs.RankLemmas.{proven}

-- Done is the status of the validation itself
pub when_done : (j : Judged) → Answers j Done → Done ≡ status_of j
when_done j (inl is) = is
when_done j (inr hinders) = absurd hinders

pub proven_ranking : (r : Readings) (held : Input → Option (List ℕ)) (job : RankJob) (old new : List ℕ) → job.rounds ≤ MOST_ROUNDS → job.damping ≤ MOST_DAMPING
    → Done ≡ status_of (judged r (Rank job) held) → new ≡ old ++ output_of (judged r (Rank job) held)
    → PrintsProvenRanking r held job old new
proven_ranking r held job old new few damped done put =
    let then_ranks : Digraph → Option (List ℕ) → Judged = λ g given. ranks r job (bounds_for job g given) in
    let last : Digraph → Judged = λ g. weights_then job.weights g.nodes (held Weights) (then_ranks g) in
    let behind = graph_behind r held last (sym done) in
    let weighed = weights_behind job.weights held behind.graph.nodes (then_ranks behind.graph) (ap status_of (sym (behind.goes_on last)) ∙ sym done) in
    let ends : judged r (Rank job) held ≡ then_ranks behind.graph weighed.given = behind.goes_on last ∙ weighed.goes_on (then_ranks behind.graph) in
    record {
      graph = behind.graph;
      given = weighed.given;
      stored = behind.stored;
      weighed = weighed.stored;
      ranked = record {
        proper = behind.proper;
        weights = weighed.proper;
        printed = put ∙ ap (λ (j : Judged). old ++ output_of j) ends ∙ ap (λ (text : List ℕ). old ++ text) (text_ranked r job (bounds_for job behind.graph weighed.given));
        proven = proven r job.rounds job.damping few damped behind.graph behind.proper behind.few_pages weighed.given weighed.proper;
      };
    }
