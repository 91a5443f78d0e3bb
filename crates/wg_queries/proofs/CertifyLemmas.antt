-- A certificate that was written, and the ranking that is printed after it.
use Rattle.std.proofs.Common.{arith, ◌≡◌, ◌≢◌, ◌∙◌, ◌⊎◌, inl, inr, ℕ, Bool, List, length, refl, sym, ap, subst, Option, Some, Result, Ok, Err}
use Rattle.std.specs.{Bool.IsTrue, Result.IfErr, Result.IsErrAnd}
use Rattle.std.specs.FinMap as map
use Rattle.std.proofs.Math.Seq.{take-length}
use Rattle.wg_outside.specs.{Outside.Files, Outside.Increased, Puts.Puts}
use Rattle.wg_outside.specs.declared.output.Output.TheVariants.{Certificate, Out}
use Rattle.wg_outside.proofs.PutsLemmas.{is_that_err}
use Rattle.wg_greedy.specs.Held.{HoldsFront, HoldsLess}
use Rattle.wg_rank.specs.Intervals.{Intervals}
use Rattle.wg_outcomes.specs.{Answers.HasOutput, Answers.IsUnput, Answers.status_in, Names.certificate_to}
use Rattle.wg_outcomes.specs.{Readings.Readings, declared.ending.Ending.Ending, declared.status.Status.Status}
use Rattle.wg_outcomes.specs.declared.status.Status.TheVariants.{Memory, WriteFault}
use Rattle.wg_outcomes.proofs.Statuses.{by_put, by_stop, unput_cause}
use Rattle.wg_outcomes.specs.{Performs.CertifiesRanking, Performs.Outside, Ranked.certificate_text, Ranked.text_for}
use Rattle.wg_words.specs.declared.jobs.RankJob.{RankJob}
use Rattle.wg_outcomes.specs.Written.{CertificateAfter, IsStoppedAt, OthersStay, StayBeside, Touches}
use Rattle.wg_outcomes.proofs.BuildLemmas.{put_stopped, stopped_cause, stopped_output}
use Rattle.wg_outcomes.proofs.PerformsLemmas.{output_put, put_last}
use Rattle.wg_outcomes.proofs.WritingLemmas.{rose_there, stopped_at}

-- the file of a name holds this, or is as before and lacks something
abbrev pub HoldsWhole : List ℕ → List ℕ → Files → Type 0
HoldsWhole name text files = map.get files name ≡ Some text

abbrev pub HoldsPart : List ℕ → List ℕ → Files → Files → Type 0
HoldsPart name text old new = (map.get new name ≡ map.get old name) ⊎ HoldsLess (map.get new name) text

others_stay : (name : List ℕ) (old new : Files) → StayBeside name old new → OthersStay (certificate_to name) old new
others_stay name old new stay q other = stay q (λ same. other Certificate (ap Some (sym same)))

part_is : (text : List ℕ) (old new : Option (List ℕ)) → (new ≡ old) ⊎ HoldsLess new text → (new ≡ old) ⊎ HoldsFront new text
part_is text old new h = grind arith

-- the output is not the file of a certificate
not_at_out : (s : Status) → IsStoppedAt Certificate s → s ≢ WriteFault Out
not_at_out s only is = grind arith

pub certify_exit : (b : Intervals) (name : List ℕ) (job : RankJob) (td to : Bool) (before after : Outside) (r : Result (Unit {0}) Ending) (e : Ending) → IsErrAnd r (λ x. x ≡ e)
    → CertifiesRanking b name job td to before after (Err e) → CertifiesRanking b name job td to before after r
certify_exit b name job td to before after r e is h = subst (λ (x : Result (Unit {0}) Ending). CertifiesRanking b name job td to before after x) (sym (is_that_err r e is)) h

module _ (b : Intervals) (name : List ℕ) (job : RankJob) (td to : Bool) (before after : Outside) where
  abbrev text : List ℕ
  text = certificate_text b

  -- the file was not written whole
  pub certify_stopped : (e : Ending) → after.taken ≡ before.taken → (IsTrue td → HoldsPart name text before.files after.files)
      → Touches Certificate name td before.files after.files before.counts after.counts (Err e) → CertifiesRanking b name job td to before after (Err e)
  certify_stopped e silent part h = record {
    only = stopped_at Certificate e.status h.only;
    causes = λ inputs.
        stopped_cause inputs (certificate_to name) refl _ _ _ _ e.status (stopped_at Certificate e.status h.only)
        (rose_there (certificate_to name) Certificate name refl before.counts after.counts e.status h.only h.cause);
    output = λ o q.
        subst (λ (new : List ℕ). HasOutput (text_for q job b) before.taken new e.status) (sym silent)
        (stopped_output (text_for q job b) before.taken e.status (stopped_at Certificate e.status h.only) (not_at_out e.status h.only));
    silent = inr (inr silent);
    unprinted = λ want. inl silent;
    printed_last = λ t want. inl silent;
    files = λ t. (
      others_stay name before.files after.files (h.others t),
      by_stop (CertificateAfter text (map.get before.files name) (map.get after.files name)) Certificate e.status h.only (part t) (part_is text _ _ (part t)),
    );
    later = h.later;
  }

-- it was, and then the ranking is printed
module _ (b : Intervals) (name : List ℕ) (job : RankJob) (td to : Bool) (before after : Outside) where
  put_certificate : (old new : Option (List ℕ)) (r : Result (Unit {0}) Ending) → IfErr r (λ e. IsUnput e.status) → new ≡ Some (certificate_text b) → CertificateAfter (certificate_text b) old new (status_in r)
  put_certificate old new r only whole =
      by_put (CertificateAfter (certificate_text b) old new) r only whole whole (inr (length (certificate_text b), whole ∙ ap Some (sym (take-length (certificate_text b)))))

  pub certify_done : (r : Result (Unit {0}) Ending) → (IsTrue td → HoldsWhole name (certificate_text b) after.files) → Touches Certificate name td before.files after.files before.counts after.counts (Ok tt)
      → (IsTrue to → (q : Readings) → Puts (text_for q job b) before.taken after.taken r) → IfErr r (λ e. IsUnput e.status)
      → (status_in r ≡ WriteFault Out → Increased before.out.faults after.out.faults) → (status_in r ≡ Memory → Increased before.out.wants after.out.wants) → CertifiesRanking b name job td to before after r
  certify_done r whole h puts only rose wanted = record {
    only = put_stopped r only;
    causes = λ inputs. unput_cause inputs (certificate_to name) before.counts after.counts before.out.faults after.out.faults r only rose;
    output = λ o q. output_put (text_for q job b) (text_for q job b) before.taken after.taken r refl (puts o q) only;
    silent = put_last r before.taken after.taken only;
    unprinted = λ want. inr (wanted want);
    printed_last = λ t want. inr (whole t);
    files = λ t. (others_stay name before.files after.files (h.others t), put_certificate (map.get before.files name) (map.get after.files name) r only (whole t));
    later = h.later;
  }
