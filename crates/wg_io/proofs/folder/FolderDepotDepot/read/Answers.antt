use Rattle.std.proofs.Common.{refl, subst}
use Rattle.wg_outside.specs.Outside.{Counts, NonDecreasing}
use Rattle.wg_outside.proofs.FilesLemmas.{none_falls-refl}
use Rattle.wg_io.proofs.CountLemmas.{more_absences, more_read_faults, more_wants, no_error, no_read, read_error}
use Rattle.wg_io.proofs.folder.FolderDepotDepot.read.Goals as goal

pub returns-in-Err : goal.returns-in-Err
returns-in-Err g c =
    let r = c.refused_read.ensures in
    let now = c.refused_read.new.self in
    record {
      count = tt;
      bytes = λ t. no_read _ _ _ _ t;
      same = refl;
      absent = λ e. more_absences _ _ now c.self.view_is (r.absent (read_error _ _ e));
      failed = λ e. more_read_faults _ _ now c.self.view_is (r.failed (read_error _ _ e));
      memory = λ e. more_wants _ _ now c.self.view_is (r.memory (read_error _ _ e));
      later = subst (λ (n : Counts). NonDecreasing (λ _. n) (λ _. now)) c.self.view_is r.later;
    }

pub returns-in-Ok : goal.returns-in-Ok
returns-in-Ok g c = record {
  count = c.in-Ok.ensures;
  bytes = λ t. no_read _ _ _ _ t;
  same = refl;
  absent = λ e. no_error _ _ _ _ e;
  failed = λ e. no_error _ _ _ _ e;
  memory = λ e. no_error _ _ _ _ e;
  later = subst (λ (n : Counts). NonDecreasing (λ _. n) (λ _. c.self.inside.tally)) c.self.view_is (none_falls-refl _);
}
