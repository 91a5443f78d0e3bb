-- How each step of `rank` leads on or ends it.
use Rattle.std.proofs.Common.{◌≡◌, ◌∙◌, ℕ, Bool, nat_lt, List, [], ◌∷◌, ◌++◌, length, Option, Some, None, Result, Ok, Err, refl, sym, ap, subst, arith}
use Rattle.std.specs.{Bool.IsTrue, Result.IfErr}
use Rattle.wg_outside.specs.{Outside.Files, Outside.Counts, Outside.Increased, Puts.Puts}
use Rattle.wg_outside.specs.declared.output.Output.TheVariants.{Out}
use Rattle.wg_params.specs.Parameters.{Parameters}
use Rattle.wg_graph.specs.Digraph.{Digraph}
use Rattle.wg_rank.specs.{Intervals.Intervals, Weights.weights_of, Rounds.bounds_after}
use Rattle.wg_words.specs.{declared.jobs.RankJob.RankJob, declared.jobs.Job.TheVariants.Rank}
use Rattle.wg_outcomes.specs.{Answers.IsUnput, Answers.status_in, Promised.promised_in, Readings.Readings}
use Rattle.wg_outcomes.specs.Judged.{Judged, a_certificate, files_of, output_of, status_of}
use Rattle.wg_readings.specs.Loading.{LoadsGraph, LoadsParams, LoadsWeights}
use Rattle.wg_outcomes.specs.Names.{certificate_outputs, name_of_input, name_of_output, record_files, weights_file, weights_named}
use Rattle.wg_outcomes.specs.{declared.ending.Ending.Ending, declared.status.Input.Input}
use Rattle.wg_outcomes.specs.declared.status.Input.TheVariants.{Properties, Graph, Weights}
use Rattle.wg_outcomes.specs.declared.status.Status.TheVariants.{Memory, WriteFault}
use Rattle.wg_outcomes.specs.Commands.{ranks, with_certificate}
use Rattle.wg_outcomes.specs.Performs.{CertifiesRanking, OutCounts, Outside, Performs, Produces, outside}
use Rattle.wg_outcomes.specs.Ranked.{bounds_for, certificate_text, text_for}
use Rattle.wg_outcomes.proofs.BuildLemmas.{produced}
use Rattle.wg_readings.proofs.JobSteps.{ComesTo, ends_without, judges_rest, prints}
use Rattle.wg_readings.proofs.GraphJobs.{IsOfGraph, behind_graph}
use Rattle.wg_readings.proofs.GraphJobs as graphs

-- bounds after the last round, along lists that stayed those of the same graph
pub last_is : (graph still : Digraph) (b : Intervals) (given : Option (List ℕ)) (job : RankJob) (last : Intervals) → still ≡ graph
    → (b.weights ≡ weights_of still.nodes given → last ≡ bounds_after still given b.damping job.rounds)
    → b.weights ≡ weights_of graph.nodes given → b.damping ≡ job.damping → last ≡ bounds_for job graph given
last_is graph still b given job last same after weighed damped = grind arith

weights_last : (base : List ℕ) (name : Option (List ℕ)) → name_of_input (record_files base ++ weights_file name) Weights ≡ weights_named name Weights
weights_last base _ = refl

-- what is left to do with the weights
abbrev behind : RankJob → Parameters → Digraph → Option (List ℕ) → Readings → (Input → Option (List ℕ)) → Judged
behind job p g given r h = ranks r job (bounds_for job g given)

pub of_graph : (job : RankJob) → IsOfGraph (Rank job) job.base (behind_graph job.weights (behind job))
of_graph job = record { text_named = refl; graph_named = refl; judges = λ r h. refl }

module _ (job : RankJob) (td to : Bool) (before : Outside) where
  module _ (p : Parameters) (files : Files) (counts : List ℕ → Counts) (l : LoadsParams job.base td before.files files before.counts counts (Ok p))
      (files1 : Files) (counts1 : List ℕ → Counts) (graph : Digraph) (g : LoadsGraph job.base p td files files1 counts counts1 (Ok graph)) where
    pub no_weights : (after : Outside) (e : Ending) → after.taken ≡ before.taken → LoadsWeights job.weights graph.nodes td files1 after.files counts1 after.counts (Err e)
        → Performs (Rank job) td to before after e.status e.promised
    no_weights = graphs.no_weights (Rank job) job.base job.weights (behind job) (of_graph job) (weights_last job.base job.weights) td to before p files counts l files1 counts1 graph g

    module _ (files2 : Files) (counts2 : List ℕ → Counts) (given : Option (List ℕ)) (w : LoadsWeights job.weights graph.nodes td files1 files2 counts1 counts2 (Ok given)) where
      come : ComesTo (Rank job) p td before files2 counts2 (Weights ∷ Graph ∷ Properties ∷ []) (behind job p graph given)
      come =
          graphs.has_weights (Rank job) job.base job.weights (behind job) (of_graph job) (weights_last job.base job.weights) td to before p files counts l files1 counts1 graph g files2 counts2 given w

      -- memory ran out before the first round
      pub no_room : (taken : List ℕ) (out : OutCounts) (e : Ending) → taken ≡ before.taken → e.status ≡ Memory → Performs (Rank job) td to before (outside files2 counts2 taken out) e.status e.promised
      no_room taken out e silent want =
          ends_without (Rank job) job.base td to before p files2 counts2 (Weights ∷ Graph ∷ Properties ∷ []) (behind job p graph given) come taken out e silent want

      module _ (b : Intervals) (is : b ≡ bounds_for job graph given) where
        -- the ranking is printed, and nothing is written
        pub only_prints : job.certificate ≡ None → (taken : List ℕ) (out : OutCounts) (r : Result (Unit {0}) Ending) → (IsTrue to → (q : Readings) → Puts (text_for q job b) before.taken taken r)
            → IfErr r (λ e. IsUnput e.status) → (status_in r ≡ WriteFault Out → Increased before.out.faults out.faults) → (status_in r ≡ Memory → Increased before.out.wants out.wants)
            → Performs (Rank job) td to before (outside files2 counts2 taken out) (status_in r) (promised_in r)
        only_prints none taken out r puts only rose wanted =
            prints (Rank job) job.base td to before p files2 counts2 (Weights ∷ Graph ∷ Properties ∷ []) (behind job p graph given) come (λ q. text_for q job b)
            (λ q. ap (λ (x : Intervals). ranks q job x) (sym is) ∙ ap (λ (o : Option (List ℕ)). with_certificate o (certificate_text b) (text_for q job b)) none)
            (ap (λ (o : Option (List ℕ)). nat_lt 0 (length (certificate_outputs o))) none) taken out r puts only rose (λ apart. wanted)

        -- the certificate is written before
        pub certifies : (to_name : List ℕ) → job.certificate ≡ Some to_name → (after : Outside) (r : Result (Unit {0}) Ending)
            → CertifiesRanking b to_name job td to (outside files2 counts2 before.taken before.out) after r → Performs (Rank job) td to before after (status_in r) (promised_in r)
        certifies to_name some after r h =
            produced (Rank job) td to before after files2 counts2 (a_certificate (certificate_text b)) (λ q. text_for q job b) r
            (ap (λ (o : Option (List ℕ)). nat_lt 0 (length (certificate_outputs o))) some)
            (λ t q.
            let judged_is =
            judges_rest (Rank job) job.base td to before p files2 counts2 (Weights ∷ Graph ∷ Properties ∷ []) (behind job p graph given) come t q
            ∙ ap (λ (x : Intervals). ranks q job x) (sym is) ∙ ap (λ (o : Option (List ℕ)). with_certificate o (certificate_text b) (text_for q job b)) some in
            (ap status_of judged_is, ap output_of judged_is, ap files_of judged_is))
            come.same come.later
            (subst (λ (o : Option (List ℕ)). Produces (name_of_output (certificate_outputs o)) (a_certificate (certificate_text b)) (λ q. text_for q job b)
            td to (outside files2 counts2 before.taken before.out) after r) (sym some) h)
