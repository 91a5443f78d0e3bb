-- How a job is shown to have been done, or to have ended.
use Rattle.std.proofs.Common.{◌≡◌, ◌⊎◌, inl, inr, ℕ, Bool, true, false, if◌then◌else◌, List, refl, sym, ◌∙◌, ap, subst, Option, Some, None, Result, Err, [], arith}
use Rattle.std.specs.{Bool.IsTrue, Result.IfErr}
use Rattle.std.proofs.lemmas.List.{append-nil}
use Rattle.std.specs.FinMap as map
use Rattle.wg_outside.specs.{Outside.Files, Outside.Counts, Outside.NonDecreasing, Outside.Increased, Puts.Puts}
use Rattle.wg_outside.specs.declared.depot.Depot as depot
use Rattle.wg_outside.specs.declared.sink.Sink as sink
use Rattle.wg_outside.specs.{declared.output.Output.Output, declared.output.Output.TheVariants.Out}
use Rattle.wg_words.specs.{declared.jobs.Job.Job, declared.jobs.Job.TheVariants.Bulk}
use Rattle.wg_vectors.specs.Generated.{generated}
use Rattle.wg_outcomes.specs.{Bulk.outcome_of, Bulk.outcome_text, Reached.Reaches, Commands.judged, Commands.written_by}
use Rattle.wg_outcomes.specs.Answers.{Answers, HasOutput, IsPutLast, IsUnput, status_in, IsHindrance, Steps}
use Rattle.wg_outcomes.specs.{Causes.AreFaultless, Causes.HasCause, Causes.IncreasedAt, Readings.Readings}
use Rattle.wg_outcomes.specs.Judged.{Judged, accepted, files_of, output_of, status_of, Written, refused}
use Rattle.wg_outcomes.specs.{Promised.ArePromised, Promised.promised_in, Untold.DoesAnywhere, Untold.GeneratesAnywhere}
use Rattle.wg_outcomes.specs.JobFiles.{can_end, has_input, input_name, output_name, prints_in_parts, writes_files}
use Rattle.wg_outcomes.specs.{Names.held_by, Names.no_outputs, Names.IsOfInput, Written.AreAllWhole, Written.HasFiles}
use Rattle.wg_outcomes.specs.Performs.{DoesAlone, DoesOrEnds, Outside, Performs, judged_on}
use Rattle.wg_outcomes.specs.{declared.ending.Ending.Ending, declared.status.Input.Input, declared.status.Status.Status}
use Rattle.wg_outcomes.specs.declared.status.Status.TheVariants.{Done, Memory, ReadFault, WriteFault, Usage}
use Rattle.wg_outcomes.proofs.Statuses.{IsRead, IsStop, by_input, by_put, cause_named, unput_cause}

-- ---- what is said of a job is said of an equal one
pub performs_at : (j k : Job) (td to : Bool) (before after : Outside) (s t : Status) (a b : ℕ) → j ≡ k → s ≡ t → a ≡ b
    → Performs k td to before after t b → Performs j td to before after s a
performs_at j k td to before after s t a b same is count h = grind arith

pub does_at : {D O : Type 0} (d : depot.Ghosts D) (o : sink.Ghosts O) (j k : Job) (before after : D) (out out' : O) (r : Result (Unit {0}) Ending) → j ≡ k → DoesOrEnds d o k before after out out' r
    → DoesOrEnds d o j before after out out' r
does_at d o j k before after out out' r same h = subst (λ (x : Job). DoesOrEnds d o x before after out out' r) (sym same) h

pub anywhere_at : {D O : Type 0} (d : depot.Ghosts D) (o : sink.Ghosts O) (j k : Job) (before after : D) (out out' : O) (s t : Status) → j ≡ k → s ≡ t → DoesAnywhere d o k before after out out' t
    → DoesAnywhere d o j before after out out' s
anywhere_at d o j k before after out out' s t same is h = grind arith

-- what is done without a depot is done beside any
pub generates : {O : Type 0} (o : sink.Ghosts O) (seed pages : ℕ) (out out' : O) (r : Result (Unit {0}) Ending) → DoesAlone o (Bulk seed pages) out out' r → GeneratesAnywhere o seed pages out out' (status_in r)
generates o seed pages out out' r does told done q =
    subst (HasOutput (outcome_text (outcome_of q (generated seed pages))) (o.taken out) (o.taken out')) done ((does true map.empty (λ name. record { read_faults = 0; write_faults = 0; absences = 0; wants = 0 })).output refl told q)

-- ---- a job that writes no file
written_none : (r : Readings) (job : Job) (held : Input → Option (List ℕ)) → writes_files job ≡ false → written_by r job held ≡ None
written_none r job held none = ap (λ (b : Bool). if b then files_of (judged r job held) else None) none

pub files_same : (job : Job) → writes_files job ≡ false → (before after : Outside) (s : Status) → after.files ≡ before.files → (r : Readings)
    → HasFiles (output_name job) (written_by r job (held_by (input_name job) before.files)) before.files after.files s
files_same job none before after s same r = grind arith

pub nothing_whole : (job : Job) → writes_files job ≡ false → (r : Readings) (held : Input → Option (List ℕ)) (files : Files) → AreAllWhole (output_name job) (written_by r job held) files
nothing_whole job none r held files = subst (λ (a : Option Written). AreAllWhole (output_name job) a files) (sym (written_none r job held none)) tt

pub stop_output : (due old new : List ℕ) (s : Status) → IsStop s → new ≡ old → HasOutput due old new s
stop_output due old new s h h2 = grind (arith, append-nil)

files_kept : (names : Output → Option (List ℕ)) (a : Option Written) (old new : Files) (s : Status) → IsStop s → new ≡ old → HasFiles names a old new s
files_kept names a old new s h h2 = grind arith

-- a job that was stopped before it wrote anything
pub stopped : (job : Job) (td to : Bool) (before after : Outside) (s : Status) (a : ℕ)
    → IsStop s → after.taken ≡ before.taken → after.files ≡ before.files
    → (IsTrue td → (r : Readings) → Answers (judged_on r job before.files) s)
    → IsTrue (can_end job s)
    → HasCause (input_name job) (output_name job) before.counts after.counts before.out.faults after.out.faults s
    → (IsTrue td → (r : Readings) (i : Input) → s ≡ ReadFault i → Reaches r job (held_by (input_name job) before.files) i)
    → NonDecreasing before.counts after.counts
    → (IsTrue td → ArePromised (held_by (input_name job) before.files) s a)
    → Performs job td to before after s a
stopped job td to before after s a stop silent same answers possible causes reached later promised = grind (arith, IsStop, stop_output, files_kept)

-- ---- a job whose last step is its output

-- the output of a job whose last step puts all of what is due
pub output_put : (due text old new : List ℕ) (r : Result (Unit {0}) Ending) → text ≡ due → Puts text old new r → IfErr r (λ e. IsUnput e.status) → HasOutput due old new (status_in r)
output_put due text old new r h h2 h3 = grind arith

-- it is the last
pub put_last : (r : Result (Unit {0}) Ending) (old new : List ℕ) → IfErr r (λ e. IsUnput e.status) → IsPutLast (status_in r) old new
put_last r old new h = grind arith

-- all was validated, and this text is put out
pub printed_by : (job : Job) (td to : Bool) (before after : Outside) (text : Readings → List ℕ) (r : Result (Unit {0}) Ending) → writes_files job ≡ false
    → (IsTrue td → (q : Readings) → judged_on q job before.files ≡ accepted (text q))
    → after.files ≡ before.files
    → NonDecreasing before.counts after.counts
    → (IsTrue to → (q : Readings) → Puts (text q) before.taken after.taken r)
    → IfErr r (λ e. IsUnput e.status)
    → (status_in r ≡ WriteFault Out → Increased before.out.faults after.out.faults)
    → (prints_in_parts job ≡ false → status_in r ≡ Memory → Increased before.out.wants after.out.wants)
    → Performs job td to before after (status_in r) (promised_in r)
printed_by job td to before after text r none is same later puts only cause wanted = record {
  answers = λ t q. by_put (Answers (judged_on q job before.files)) r only (inl (sym (ap status_of (is t q)))) (inr tt) (inr tt);
  possible = by_put (λ s. IsTrue (can_end job s)) r only refl refl refl;
  causes = unput_cause _ _ _ _ _ _ r only cause;
  reached = λ t q i fault. absurd (subst IsRead fault (by_put IsRead r only tt tt tt));
  needed = λ t q o fault. ap status_of (is t q);
  output = λ t o q. output_put _ (text q) _ _ r (sym (ap output_of (is t q))) (puts o q) only;
  silent = λ apart. put_last r before.taken after.taken only;
  unprinted = λ apart want. inr (wanted apart want);
  printed_last = λ t q want. inr (nothing_whole job none q (held_by (input_name job) before.files) after.files);
  files = λ t q. files_same job none before after (status_in r) same q;
  same = λ is. same;
  later = later;
  promised = λ t. by_put (λ s. ArePromised (held_by (input_name job) before.files) s (promised_in r)) r only tt tt tt;
}

-- ---- a job that was stopped where it reads an input
abbrev pub Names : Type 0
Names = Input → Option (List ℕ)

pub unread_possible : (job : Job) (i : Input) (s : Status) → IsTrue (has_input job i) → IsOfInput i s → IsTrue (can_end job s)
unread_possible job i s has only = by_input (λ x. IsTrue (can_end job x)) i s only refl has has has

-- its line names nothing that is promised
pub unread_promised : (held : Names) (i : Input) (s : Status) (a : ℕ) → IsOfInput i s → ArePromised held s a
unread_promised held i s a only = by_input (λ x. ArePromised held x a) i s only tt tt tt tt

-- an input was not read, which is named by this naming too
pub unread : (names : Names) (i : Input) (job : Job) (td to : Bool) (before after : Outside) (s : Status) (a : ℕ)
    → IsTrue (has_input job i) → input_name job i ≡ names i → after.taken ≡ before.taken
    → IsOfInput i s
    → HasCause names no_outputs before.counts after.counts 0 0 s
    → after.files ≡ before.files
    → NonDecreasing before.counts after.counts
    → (IsTrue td → (r : Readings) → Answers (judged_on r job before.files) s)
    → (IsTrue td → (r : Readings) (j : Input) → s ≡ ReadFault j → Reaches r job (held_by (input_name job) before.files) j)
    → Performs job td to before after s a
unread names i job td to before after s a has named silent only cause same later answers reached =
    stopped job td to before after s a (by_input IsStop i s only tt tt tt tt) silent same answers (unread_possible job i s has only)
    (cause_named i s names (input_name job) (output_name job) before.counts after.counts before.out.faults after.out.faults only named cause)
    reached later (λ t. unread_promised (held_by (input_name job) before.files) i s a only)

-- ---- a job that nothing outside hinders
pub not_at : (count : Counts → ℕ) (name : Option (List ℕ)) (old new : List ℕ → Counts) → ((n : List ℕ) → ¬ Increased (count (old n)) (count (new n))) → ¬ IncreasedAt count name old new
not_at count None old new none more = more
not_at count (Some n) old new none more = none n more

module _ (inputs : Names) (outputs : Output → Option (List ℕ)) (old new : List ℕ → Counts) (faults faults' : ℕ) (none : AreFaultless old new faults faults') where
  pub no_fault_in : (o : Output) → HasCause inputs outputs old new faults faults' (WriteFault o) → ⊥
  no_fault_in Out cause = none.output (cause.out_fault refl)
  no_fault_in o cause = not_at (λ c. c.write_faults) (outputs o) old new none.writes (cause.write_fault o (λ same. cc) refl)

  -- memory alone comes in the place of the validation
  pub unhindered : (j : Judged) (s : Status) → HasCause inputs outputs old new faults faults' s → Answers j s → (s ≡ status_of j) ⊎ (s ≡ Memory)
  unhindered j s cause (inl is) = inl is
  unhindered j Memory cause (inr hinders) = inr refl
  unhindered j (ReadFault i) cause (inr hinders) = absurd (not_at (λ c. c.read_faults) (inputs i) old new none.reads (cause.read_fault i refl))
  unhindered j (WriteFault o) cause (inr hinders) = absurd (no_fault_in o cause)
  unhindered j _ cause (inr hinders) = absurd hinders

-- ---- files in memory are never at fault, so that memory alone can hinder a step
-- a count that stays 0
still : ¬ Increased 0 0
still (inl more) = omega (arith, more)
still (inr last) = omega (arith, last)

pub faultless : (old new : List ℕ → Counts) → ((n : List ℕ) → ((old n).read_faults ≡ 0) × ((new n).read_faults ≡ 0) × ((old n).write_faults ≡ 0) × ((new n).write_faults ≡ 0)) → AreFaultless old new 0 0
faultless old new zeros = grind arith

-- a step that goes on, whatever comes next, is not refused
pub hindered : {B : Type 0} (step : (B → Judged) → Judged) (b : B) (e : Ending) → ((next : B → Judged) → step next ≡ next b) → Steps {B = B} step (Err e) → IsHindrance e.status
hindered step b e goes ends =
    let done : (e.status ≡ Done) ⊎ IsHindrance e.status = subst (λ (j : Judged). Answers j e.status) (goes (λ x. accepted [])) (ends (λ x. accepted [])) in
    let usage : (e.status ≡ Usage) ⊎ IsHindrance e.status = subst (λ (j : Judged). Answers j e.status) (goes (λ x. refused Usage)) (ends (λ x. refused Usage)) in
    elim done [
      | inl is ↦ elim usage [
        | inl other ↦ absurd (let no : Done ≡ Usage = sym is ∙ other in cc)
        | inr h ↦ h
      ]
      | inr h ↦ h
    ]

module _ (inputs : Names) (outputs : Output → Option (List ℕ)) (old new : List ℕ → Counts) (none : AreFaultless old new 0 0) where
  -- what came in its place is out of memory
  pub by_memory : (s : Status) → HasCause inputs outputs old new 0 0 s → IsHindrance s → s ≡ Memory
  by_memory s cause hinders =
      elim (unhindered inputs outputs old new 0 0 none (accepted []) s cause (inr hinders)) [
        | inl is ↦ absurd (subst IsHindrance is hinders)
        | inr is ↦ is
      ]
