-- How each step of `verify` leads on or ends it.
use Rattle.std.proofs.Common.{◌≡◌, ◌⊎◌, ℕ, Bool, List, [], ◌∷◌, ◌++◌, is_some, Option, Result, Ok, Err, refl, arith}
use Rattle.std.specs.{Bool.IsTrue, Result.IfErr}
use Rattle.wg_outside.specs.{Outside.Files, Outside.Counts, Outside.Increased, Puts.Puts}
use Rattle.wg_outside.specs.declared.output.Output.TheVariants.{Out}
use Rattle.wg_params.specs.Parameters.{Parameters}
use Rattle.wg_graph.specs.Digraph.{Digraph}
use Rattle.wg_rank.specs.Claims.{Claim}
use Rattle.wg_words.specs.{declared.jobs.VerifyJob.VerifyJob, declared.jobs.Job.TheVariants.Verify}
use Rattle.wg_outcomes.specs.{Answers.IsUnput, Answers.Steps, Answers.status_in, Promised.promised_in}
use Rattle.wg_outcomes.specs.{Judged.Judged, Judged.accepted, Judged.claim_then, Readings.Readings}
use Rattle.wg_readings.specs.Loading.{IsBadCertificate, LoadsCertificate, LoadsGraph, LoadsParams, LoadsWeights}
use Rattle.wg_outcomes.specs.Names.{certificate_file, certificate_named, name_of_input, record_files, weights_file, weights_named}
use Rattle.wg_outcomes.specs.{declared.ending.Ending.Ending, declared.status.Input.Input}
use Rattle.wg_outcomes.specs.declared.status.Input.TheVariants.{Properties, Graph, Weights, Certificate}
use Rattle.wg_outcomes.specs.declared.status.Status.TheVariants.{Memory, WriteFault}
use Rattle.wg_outcomes.specs.Performs.{OutCounts, Outside, Performs, outside}
use Rattle.wg_outcomes.specs.Verified.{verified_line, with_gap}
use Rattle.wg_readings.proofs.{JobSteps.ComesTo, JobSteps.prints, GraphJobs.IsOfGraph, GraphJobs.behind_graph}
use Rattle.wg_readings.proofs.JobSteps.{certificate_refused, comes_on_named, ends_named, refuses_own}
use Rattle.wg_readings.proofs.GraphJobs as graphs

module _ (base certificate : List ℕ) where
  abbrev files : Option (List ℕ) → List (Input × List ℕ)
  files given = record_files base ++ weights_file given ++ certificate_file certificate

  weights_are : (given : Option (List ℕ)) → name_of_input (files given) Weights ≡ weights_named given Weights
  weights_are given = grind arith

  certificate_is : (given : Option (List ℕ)) → name_of_input (files given) Certificate ≡ certificate_named certificate Certificate
  certificate_is given = grind arith

  has_certificate : (given : Option (List ℕ)) → IsTrue (is_some (name_of_input (files given) Certificate))
  has_certificate given = grind arith

-- what is left to do with the claim
abbrev pub behind_claim : Digraph → Option (List ℕ) → Claim → Readings → (Input → Option (List ℕ)) → Judged
behind_claim g ws c r h = with_gap g c ws (λ left. accepted (verified_line c left))

abbrev pub behind_weights : Parameters → Digraph → Option (List ℕ) → Readings → (Input → Option (List ℕ)) → Judged
behind_weights p g ws r h = claim_then g.nodes (h Certificate) (λ c. behind_claim g ws c r h)

pub of_graph : (job : VerifyJob) → IsOfGraph (Verify job) job.base (behind_graph job.weights behind_weights)
of_graph job = record { text_named = refl; graph_named = refl; judges = λ r h. refl }

module _ (job : VerifyJob) (td to : Bool) (before : Outside) where
  module _ (p : Parameters) (files : Files) (counts : List ℕ → Counts) (l : LoadsParams job.base td before.files files before.counts counts (Ok p))
      (files1 : Files) (counts1 : List ℕ → Counts) (graph : Digraph) (g : LoadsGraph job.base p td files files1 counts counts1 (Ok graph)) where
    pub no_weights : (after : Outside) (e : Ending) → after.taken ≡ before.taken → LoadsWeights job.weights graph.nodes td files1 after.files counts1 after.counts (Err e)
        → Performs (Verify job) td to before after e.status e.promised
    no_weights =
        graphs.no_weights (Verify job) job.base job.weights behind_weights (of_graph job) (weights_are job.base job.certificate job.weights) td to before p files counts l files1 counts1 graph g

    module _ (files2 : Files) (counts2 : List ℕ → Counts) (ws : Option (List ℕ)) (w : LoadsWeights job.weights graph.nodes td files1 files2 counts1 counts2 (Ok ws)) where
      come : ComesTo (Verify job) p td before files2 counts2 (Weights ∷ Graph ∷ Properties ∷ []) (λ r h. claim_then graph.nodes (h Certificate) (λ c. behind_claim graph ws c r h))
      come =
          graphs.has_weights (Verify job) job.base job.weights behind_weights (of_graph job) (weights_are job.base job.certificate job.weights) td to before p files counts l files1 counts1 graph
          g files2 counts2 ws w

      pub no_claim : (after : Outside) (e : Ending) → after.taken ≡ before.taken → LoadsCertificate job.certificate graph.nodes td files2 after.files counts2 after.counts (Err e)
          → Performs (Verify job) td to before after e.status e.promised
      no_claim after e silent c =
          ends_named (Verify job) job.base td to before p files2 counts2 (Weights ∷ Graph ∷ Properties ∷ []) Certificate (certificate_named job.certificate)
          (certificate_is job.base job.certificate job.weights) IsBadCertificate
          (claim_then graph.nodes) (λ x r h. behind_claim graph ws x r h) come (λ h holds. holds) (λ n. refl)
          (certificate_refused (Verify job) p (has_certificate job.base job.certificate job.weights))
          (has_certificate job.base job.certificate job.weights) after e silent c.reads

      module _ (files3 : Files) (counts3 : List ℕ → Counts) (claim : Claim) (c : LoadsCertificate job.certificate graph.nodes td files2 files3 counts2 counts3 (Ok claim)) where
        come_to_claim : ComesTo (Verify job) p td before files3 counts3 (Certificate ∷ Weights ∷ Graph ∷ Properties ∷ []) (behind_claim graph ws claim)
        come_to_claim =
            comes_on_named (Verify job) job.base td to before p files2 counts2 (Weights ∷ Graph ∷ Properties ∷ []) Certificate (certificate_named job.certificate)
            (certificate_is job.base job.certificate job.weights) IsBadCertificate
            (claim_then graph.nodes) (λ x r h. behind_claim graph ws x r h) come files3 counts3 claim c.reads

        -- the claim does not hold
        pub no_gap : (taken : List ℕ) (out : OutCounts) (e : Ending) → taken ≡ before.taken → (e.status ≡ Memory) ⊎ IsBadCertificate e
            → Steps {B = ℕ} (with_gap graph claim ws) (Err e) → Performs (Verify job) td to before (outside files3 counts3 taken out) e.status e.promised
        no_gap taken out e silent only steps =
            refuses_own (Verify job) job.base td to before p files3 counts3 (Certificate ∷ Weights ∷ Graph ∷ Properties ∷ []) IsBadCertificate
            (certificate_refused (Verify job) p (has_certificate job.base job.certificate job.weights))
            (behind_claim graph ws claim) come_to_claim taken out e silent only (λ t r. steps (λ left. accepted (verified_line claim left)))

        -- it does
        pub verifies : (left : ℕ) → Steps {B = ℕ} (with_gap graph claim ws) (Ok left) → (taken : List ℕ) (out : OutCounts) (r : Result (Unit {0}) Ending)
            → (IsTrue to → Puts (verified_line claim left) before.taken taken r) → IfErr r (λ e. IsUnput e.status)
            → (status_in r ≡ WriteFault Out → Increased before.out.faults out.faults) → (status_in r ≡ Memory → Increased before.out.wants out.wants)
            → Performs (Verify job) td to before (outside files3 counts3 taken out) (status_in r) (promised_in r)
        verifies left steps taken out r puts only rose wanted =
            prints (Verify job) job.base td to before p files3 counts3 (Certificate ∷ Weights ∷ Graph ∷ Properties ∷ []) (behind_claim graph ws claim) come_to_claim
            (λ q. verified_line claim left) (λ q. steps (λ x. accepted (verified_line claim x))) refl taken out r (λ o q. puts o) only rose (λ apart. wanted)
