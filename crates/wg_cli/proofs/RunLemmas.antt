-- How a run ends: with the job that is wanted, or before it was begun, since memory ran out.
use Rattle.std.specs.Bool.{IsTrue}
use Rattle.std.proofs.Common.{◌≡◌, inr, Bool, true, false, Some, None, refl, subst}
use Rattle.wg_outside.proofs.FilesLemmas.{none_falls-refl}
use Rattle.wg_words.specs.declared.jobs.Job.{Job}
use Rattle.wg_outcomes.specs.{Answers.IsHindrance, JobFiles.can_end, Performs.Outside, Performs.Performs}
use Rattle.wg_outcomes.specs.declared.status.Status.{Status}
use Rattle.wg_outcomes.specs.declared.status.Status.TheVariants.{Done, Usage, Memory}
use Rattle.wg_outcomes.proofs.{PerformsLemmas.stopped, Statuses.IsRead, Statuses.own_caused}

-- a job that was not begun
pub not_begun : (job : Job) (td to : Bool) (at : Outside) → Performs job td to at at Memory 0
not_begun job td to at =
    stopped job td to at at Memory 0 tt refl refl (λ t r. inr tt) refl (own_caused _ _ _ _ _ _ Memory tt)
    (λ t r i is. absurd (subst IsRead is tt)) (none_falls-refl at.counts) (λ t. tt)

-- out of memory is no other end
pub not_usage : {A : Type 0} → Memory ≡ Usage → A
not_usage is = absurd (subst IsHindrance is tt)

pub not_done : {A : Type 0} → Memory ≡ Done → A
not_done is = absurd (subst IsHindrance is tt)

-- a job that is wanted does not end as if there were none
pub job_ends : {A : Type 0} (job : Job) (s : Status) → IsTrue (can_end job s) → s ≡ Usage → A
job_ends job s possible is =
    let no : false ≡ true = subst (λ (x : Status). IsTrue (can_end job x)) is possible in
    absurd cc

pub not_none : {A : Type 0} {job : Job} → Some job ≡ None → A
not_none is = absurd cc

pub same_job : {j k : Job} → Some j ≡ Some k → k ≡ j
same_job is = cc
