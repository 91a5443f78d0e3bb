-- What a job that writes an archive leaves, by the archive's own names.
use Rattle.std.proofs.Common.{◌≡◌, ◌≢◌, ◌⊎◌, inl, inr, ℕ, Bool, true, false, if◌then◌else◌, List, refl, sym, ap, subst, ◌∙◌, Option, Some, None, is_some, Result, arith}
use Rattle.std.specs.{Bool.IsTrue, Result.IfErr}
use Rattle.std.proofs.{lemmas.List.append-nil, lemmas.Result.IfErr-weaker}
use Rattle.wg_outside.specs.{Outside.Files, Outside.Counts, Outside.NonDecreasing, declared.output.Output.Output}
use Rattle.wg_outside.specs.declared.output.Output.TheVariants as output
use Rattle.wg_outside.proofs.FilesLemmas.{none_falls-trans}
use Rattle.wg_outcomes.specs.{Answers.Answers, Answers.HasOutput, Answers.IsUnput, Answers.status_in, Readings.Readings}
use Rattle.wg_outcomes.specs.{Causes.HasCause, Causes.IncreasedAt, Promised.ArePromised, Promised.promised_in}
use Rattle.wg_graph.specs.Digraph.{Digraph}
use Rattle.wg_words.specs.declared.jobs.Job.{Job}
use Rattle.wg_params.specs.declared.layout.Layout.{Layout}
use Rattle.wg_outcomes.specs.{Commands.builds, Commands.greedy_line, Commands.written_by, declared.ending.Ending.Ending}
use Rattle.wg_outcomes.specs.Judged.{Written, an_archive, files_of, output_of, status_of}
use Rattle.wg_greedy.specs.Archive.{Archive}
use Rattle.wg_outcomes.specs.JobFiles.{can_end, has_output, input_name, output_name, writes_files}
use Rattle.wg_outcomes.specs.{Names.archive_named, Names.held_by, declared.status.Input.Input}
use Rattle.wg_outcomes.specs.Performs.{BuildsArchive, Outside, Performs, Produces, judged_on, outside}
use Rattle.wg_outcomes.specs.Written.{AreAllWhole, ArchiveFiles, AreWhole, HasFiles, OthersStay, FilesAfter, IsStopped, greedy_archive, params_for}
use Rattle.wg_outcomes.specs.declared.status.Status.{Status}
use Rattle.wg_outcomes.specs.declared.status.Status.TheVariants.{Done, WriteFault}
use Rattle.wg_outcomes.proofs.Statuses.{IsRead, by_put, by_stopped, by_written}
use Rattle.wg_outcomes.proofs.WritingLemmas.{stopped_at}

-- ---- steps of a writing
pub others_twice : (names : Output → Option (List ℕ)) (f h k : Files) → OthersStay names f h → OthersStay names h k → OthersStay names f k
others_twice names f h k one two q other = two q other ∙ one q other

-- ---- a writing that was stopped
pub stopped_cause : (inputs : Input → Option (List ℕ)) (names : Output → Option (List ℕ)) → names output.Out ≡ None → (old new : List ℕ → Counts) (faults faults' : ℕ) (s : Status) → IsStopped s
    → ((o : Output) → s ≡ WriteFault o → IncreasedAt (λ c. c.write_faults) (names o) old new) → HasCause inputs names old new faults faults' s
stopped_cause inputs names none old new faults faults' s stop rose = grind arith

pub stopped_output : (due old : List ℕ) (s : Status) → IsStopped s → s ≢ WriteFault output.Out → HasOutput due old old s
stopped_output due old s stop other = grind (arith, append-nil, by_stopped)

-- the files are whole before the output is asked for
pub put_stands : (a : Archive) (old new : ArchiveFiles) (r : Result (Unit {0}) Ending) → IfErr r (λ e. IsUnput e.status) → AreWhole a new → FilesAfter a old new (status_in r)
put_stands a old new r only whole = by_put (FilesAfter a old new) r only whole whole (inr (inr (inr whole)))

pub put_stopped : (r : Result (Unit {0}) Ending) → IfErr r (λ e. IsUnput e.status) → IfErr r (λ e. IsStopped e.status)
put_stopped r only = IfErr-weaker r (λ e. IsUnput e.status) (λ e. IsStopped e.status) (λ e k. stopped_at output.Out e.status k) only

-- ---- a job whose last step writes an archive and prints its line
rose_there : (name : Option (List ℕ)) (old new : List ℕ → Counts) → IncreasedAt (λ c. c.write_faults) name old new → IsTrue (is_some name)
rose_there name old new h = grind arith

-- it has each output that was at fault
module _ (job : Job) (inputs : Input → Option (List ℕ)) (old new : List ℕ → Counts) (faults faults' : ℕ) (s : Status) (cause : HasCause inputs (output_name job) old new faults faults' s) where
  has_each : (o : Output) → s ≡ WriteFault o → IsTrue (has_output job o)
  has_each o h = grind arith

cause_since : (inputs : Input → Option (List ℕ)) (names : Output → Option (List ℕ)) (old mid new : List ℕ → Counts) (faults faults' : ℕ) (r : Result (Unit {0}) Ending) → IfErr r (λ e. IsStopped e.status)
    → NonDecreasing old mid → HasCause inputs names mid new faults faults' (status_in r) → HasCause inputs names old new faults faults' (status_in r)
cause_since inputs names old mid new faults faults' r only later cause = grind arith

-- all was validated, and what the job writes is written, and its text printed
pub produced : (job : Job) (td to : Bool) (before after : Outside) (files : Files) (counts : List ℕ → Counts) (what : Written) (text : Readings → List ℕ) (r : Result (Unit {0}) Ending)
    → writes_files job ≡ true
    → (IsTrue td → (q : Readings) → (status_of (judged_on q job before.files) ≡ Done) × (output_of (judged_on q job before.files) ≡ text q) × (files_of (judged_on q job before.files) ≡ Some what))
    → files ≡ before.files
    → NonDecreasing before.counts counts
    → Produces (output_name job) what text td to (outside files counts before.taken before.out) after r
    → Performs job td to before after (status_in r) (promised_in r)
produced job td to before after files counts what text r writes is same later h = record {
  answers = λ t q. by_written (Answers (judged_on q job before.files)) r h.only (inl (sym (is t q).0)) (λ o. inr tt) (inr tt);
  possible =
      by_written (λ s. ((o : Output) → s ≡ WriteFault o → IsTrue (has_output job o)) → IsTrue (can_end job s)) r h.only (λ has. refl) (λ o has. has o refl) (λ has. refl)
      (has_each job (input_name job) counts after.counts before.out.faults after.out.faults (status_in r) (h.causes (input_name job)));
  causes = cause_since (input_name job) (output_name job) before.counts counts after.counts before.out.faults after.out.faults r h.only later (h.causes (input_name job));
  reached = λ t q i fault. absurd (subst IsRead fault (by_written IsRead r h.only tt (λ o. tt) tt));
  needed = λ t q o fault. (is t q).0;
  output = λ t o q. subst (λ (due : List ℕ). HasOutput due before.taken after.taken (status_in r)) (sym (is t q).1) (h.output o q);
  silent = λ apart. h.silent;
  unprinted = λ apart. h.unprinted;
  printed_last = λ t q want. subst (λ (w : Option Written). (after.taken ≡ before.taken) ⊎ AreAllWhole (output_name job) w after.files) (sym (due t q)) (h.printed_last t want);
  files = λ t q.
      subst (λ (f : Files). HasFiles (output_name job) (written_by q job (held_by (input_name job) before.files)) f after.files (status_in r)) same
      (subst (λ (w : Option Written). HasFiles (output_name job) w files after.files (status_in r)) (sym (due t q)) (h.files t));
  same = λ none. absurd (let no : true ≡ false = sym writes ∙ none in cc);
  later = none_falls-trans before.counts counts after.counts later h.later;
  promised = λ t. by_written (λ s. ArePromised (held_by (input_name job) before.files) s (promised_in r)) r h.only tt (λ o. tt) tt;
}
  where
    due : IsTrue td → (q : Readings) → written_by q job (held_by (input_name job) before.files) ≡ Some what
    due t q = ap (λ (b : Bool). if b then files_of (judged_on q job before.files) else None) writes ∙ (is t q).2

-- a job that wrote the archive of a graph was performed
pub written : (job : Job) (td to : Bool) (before after : Outside) (files : Files) (counts : List ℕ → Counts) (l : Layout) (g : Digraph) (base : List ℕ) (r : Result (Unit {0}) Ending)
    → writes_files job ≡ true
    → archive_named base ≡ output_name job
    → (IsTrue td → (q : Readings) → judged_on q job before.files ≡ builds l g)
    → files ≡ before.files
    → NonDecreasing before.counts counts
    → BuildsArchive l g base td to (outside files counts before.taken before.out) after r
    → Performs job td to before after (status_in r) (promised_in r)
written job td to before after files counts l g base r writes named is same later h =
    produced job td to before after files counts (an_archive (greedy_archive (params_for l g) g)) (λ q. greedy_line (params_for l g) g) r writes
    (λ t q. (ap status_of (is t q), ap output_of (is t q), ap files_of (is t q))) same later
    (subst (λ (names : Output → Option (List ℕ)). Produces names (an_archive (greedy_archive (params_for l g) g)) (λ q. greedy_line (params_for l g) g) td to (outside files counts before.taken before.out) after r) named h)
