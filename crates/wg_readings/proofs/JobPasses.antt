-- A job that validates a graph file in pieces, and reads it again to print a text of its graph.
use Rattle.std.proofs.Common.{◌≡◌, ◌≢◌, ◌⊎◌, ◌<◌, inl, inr, ℕ, length, Bool, List, ◌++◌, take, sym, ◌∙◌, subst, Option, Result, Ok, Err, arith}
use Rattle.std.specs.{Bool.IsTrue, Result.IfErr}
use Rattle.wg_outside.specs.{Outside.Files, Outside.Counts, declared.output.Output.Output}
use Rattle.wg_outside.specs.declared.output.Output.TheVariants.{Out}
use Rattle.wg_params.specs.Parameters.{Parameters}
use Rattle.wg_grammar.specs.Archive.{Accepted}
use Rattle.wg_words.specs.declared.jobs.Job.{Job}
use Rattle.wg_outcomes.specs.{Answers.HasOutput, Answers.IsHindrance, Answers.IsUnput, Answers.status_in, Judged.Judged}
use Rattle.wg_readings.specs.{Loading.JudgesGraph, Passes.IsGraphFile, Passes.graph_then}
use Rattle.wg_outcomes.specs.{Promised.ArePromised, Promised.IsStopAt, Names.file_of, Names.held_by, Readings.Readings}
use Rattle.wg_outcomes.specs.{JobFiles.can_end, JobFiles.has_input, JobFiles.input_name, declared.ending.Ending.Ending}
use Rattle.wg_outcomes.specs.{Performs.Outside, Performs.judged_on, declared.status.Input.Input}
use Rattle.wg_outcomes.specs.{declared.status.Input.TheVariants.Graph, declared.status.Status.Status}
use Rattle.wg_outcomes.specs.declared.status.Status.TheVariants.{ReadFault, WriteFault}
use Rattle.wg_readings.proofs.{JobSteps.ComesTo, JobSteps.judges_here, PassLemmas.graph_goes}
use Rattle.wg_outcomes.proofs.Statuses.{IsRead, bad_unread, by_stop, own_read}

-- a prefix was put out, that lacks something if the output itself failed
abbrev pub PutsPart : List ℕ → List ℕ → List ℕ → Status → Type 0
PutsPart due old new s = (k : ℕ) × (s ≡ WriteFault Out → k < length due) × (new ≡ old ++ take k due)

-- what was put out if something hindered, and no file that is written
pub hindered_output : (due old new : List ℕ) (s : Status) → IsHindrance s → ((o : Output) → o ≢ Out → s ≢ WriteFault o) → PutsPart due old new s → HasOutput due old new s
hindered_output due old new s h h2 h3 = grind arith

pub hindered_promised : (held : Input → Option (List ℕ)) (s : Status) (n : ℕ) → IsHindrance s → ArePromised held s n
hindered_promised held s n h = grind arith

-- a status at which a pass ends that prints
abbrev pub StopsOrUnput : ℕ → Ending → Type 0
StopsOrUnput n e = IsStopAt Graph n e ⊎ IsUnput e.status

pub pass_possible : (job : Job) (n : ℕ) (r : Result (Unit {0}) Ending) → IsTrue (has_input job Graph) → IfErr r (StopsOrUnput n) → IsTrue (can_end job (status_in r))
pass_possible job n r h h2 = grind arith

pub pass_read : (n : ℕ) (r : Result (Unit {0}) Ending) (j : Input) → IfErr r (StopsOrUnput n) → status_in r ≡ ReadFault j → Graph ≡ j
pass_read n (Ok done) j only is = absurd (subst IsRead is tt)
pass_read n (Err e) j (inl (inl only)) is = own_read Graph e.status j only is
pass_read n (Err e) j (inl (inr bad)) is = absurd (bad_unread Graph n e j bad is)
pass_read n (Err e) j (inr unput) is = absurd (subst IsRead is (by_stop IsRead Out e.status unput tt tt))

-- what is known of a graph file that was validated, and of the validation of the job
pub graph_known : (job : Job) (base : List ℕ) (td : Bool) (before : Outside) (p : Parameters) (files files' : Files) (counts counts' : List ℕ → Counts) (read : List Input)
    (next : Accepted → Readings → (Input → Option (List ℕ)) → Judged) → input_name job Graph ≡ file_of base Graph
    → ComesTo job p td before files counts read (λ q h. graph_then q p (h Graph) (λ a. next a q h))
    → JudgesGraph base p td files files' counts counts' (Ok tt)
    → IsTrue td → (a : Accepted) × IsGraphFile (held_by (file_of base) files' Graph) p a × ((q : Readings) → judged_on q job before.files ≡ next a q (held_by (input_name job) before.files))
graph_known job base td before p files files' counts counts' read next named k j t =
    let a = j.accepted t in (
      a.0,
      subst (λ (f : Files). IsGraphFile (held_by (file_of base) f Graph) p a.0) (sym j.reads.same) a.1,
      λ q.
          judges_here job base td td before p files counts read Graph named (λ r. graph_then r p) next k t q
          ∙ graph_goes q p j.limits (held_by (file_of base) files Graph) a.0 a.1 (λ x. next x q (held_by (input_name job) before.files)),
    )
