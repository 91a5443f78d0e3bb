-- More rounds narrow what a ranking prints.
use Rattle.std.proofs.Common.{◌≡◌, ◌∙◌, ◌+◌, ◌<◌, ◌≤◌, ℕ, zero, suc, List, Option, inl, inr, sym, ap, arith, add-one}
use Rattle.std.proofs.lemmas.Bool.{cases_lt}
use Rattle.wg_graph.specs.Digraph.{Digraph}
use Rattle.wg_rank.specs.{Rank.high, Rank.low, Rank.total, Intervals.Intervals, Intervals.by_page, Weights.weights_of}
use Rattle.wg_rank.proofs.{Certificates.gap_of, Pageranks.gap_shrinks, Pageranks.high_falls, Pageranks.low_rises}
use Rattle.wg_words.specs.{declared.jobs.Job.TheVariants.Rank, declared.jobs.RankJob.RankJob}
use Rattle.wg_outcomes.specs.{Judged.Judged, Judged.output_of, Judged.status_of, Judged.weights_then, Readings.Readings}
use Rattle.wg_rank.specs.Rounds.{bounds_after}
use Rattle.wg_outcomes.specs.{Ranked.bounds_for, Ranked.text_for, declared.status.Input.TheVariants.Weights}
use Rattle.wg_outcomes.specs.{declared.status.Status.TheVariants.Done, Commands.judged, Commands.ranks}
use Rattle.wg_rank.proofs.After.{bounds_hold}
use Rattle.wg_laws.specs.Rounds.{MoreRoundsNarrow, with_rounds}
use Rattle.wg_laws.proofs.{HeldLemmas.graph_behind, WeightsLemmas.weights_behind}

-- what rises step by step rises, and what falls falls
rises : (f : ℕ → ℕ) → ((k : ℕ) → f k ≤ f (k + 1)) → (k j : ℕ) → k ≤ j → f k ≤ f j
rises f step k zero le = let e : k ≡ zero = omega arith in rw e (omega arith)
rises f step k (suc j) le =
    elim (cases_lt j k) [
      | inl past ↦ let e : k ≡ suc j = omega arith in rw e (omega arith)
      | inr on ↦ omega (arith, rises f step k j on, rw add-one at (step j))
    ]

falls : (f : ℕ → ℕ) → ((k : ℕ) → f (k + 1) ≤ f k) → (k j : ℕ) → k ≤ j → f j ≤ f k
falls f step k zero le = let e : k ≡ zero = omega arith in rw e (omega arith)
falls f step k (suc j) le =
    elim (cases_lt j k) [
      | inl past ↦ let e : k ≡ suc j = omega arith in rw e (omega arith)
      | inr on ↦ omega (arith, falls f step k j on, rw add-one at (step j))
    ]

-- a ranking is printed, whether a certificate is written or not
pub text_ranked : (r : Readings) (job : RankJob) (b : Intervals) → output_of (ranks r job b) ≡ text_for r job b
text_ranked r job b = grind arith

ranking_done : (r : Readings) (job : RankJob) (b : Intervals) → status_of (ranks r job b) ≡ Done
ranking_done r job b = grind arith

pub more_narrow : (r : Readings) → MoreRoundsNarrow r
more_narrow r held job more le damped done =
    let on : ℕ → Digraph → Option (List ℕ) → Judged = λ k g given. ranks r job (bounds_after g given job.damping k) in
    let last : ℕ → Digraph → Judged = λ k g. weights_then job.weights g.nodes (held Weights) (on k g) in
    let behind = graph_behind r held (last job.rounds) done in
    let g : Digraph = behind.graph in
    let heavy = weights_behind job.weights held g.nodes (on job.rounds g) (ap status_of (sym (behind.goes_on (last job.rounds))) ∙ done) in
    let given : Option (List ℕ) = heavy.given in
    let w : ℕ → ℕ = by_page (weights_of g.nodes given) in
    let some : 0 < g.nodes → 0 < total g w = heavy.proper.some in
    let ends : (k : ℕ) → judged r (Rank (with_rounds k job)) held ≡ on k g given = λ k. behind.goes_on (last k) ∙ heavy.goes_on (on k g) in
    let printed : (k : ℕ) → output_of (judged r (Rank (with_rounds k job)) held) ≡ text_for r job (bounds_after g given job.damping k) =
    λ k. ap output_of (ends k) ∙ text_ranked r job (bounds_after g given job.damping k) in
    record {
      graph = g;
      given = given;
      stored = behind.stored;
      weighed = heavy.stored;
      fewer_printed = printed job.rounds;
      more_done = ap status_of (ends more) ∙ ranking_done r job (bounds_after g given job.damping more);
      more_printed = printed more;
      inside = record {
        low = λ v lt.
            rw ((bounds_hold g given job.rounds job.damping).low_is.each v lt, (bounds_hold g given more job.damping).low_is.each v lt)
            (rises (λ k. low g job.damping w k v) (λ k. low_rises g job.damping w behind.proper (omega (arith, damped)) (omega arith) (some (omega arith)) k v) job.rounds more le);
        high = λ v lt.
            rw ((bounds_hold g given job.rounds job.damping).high_is.each v lt, (bounds_hold g given more job.damping).high_is.each v lt)
            (falls (λ k. high g job.damping w k v) (λ k. high_falls g job.damping w behind.proper (omega (arith, damped)) (omega arith) (some (omega arith)) k v) job.rounds more le);
      };
      gap = λ next so.
          rw (gap_of (bounds_after g given job.damping more) g (bounds_hold g given more job.damping), gap_of (bounds_for job g given) g (bounds_hold g given job.rounds job.damping), next)
          (gap_shrinks g job.damping w behind.proper (omega (arith, damped)) so (some so) job.rounds);
    }
