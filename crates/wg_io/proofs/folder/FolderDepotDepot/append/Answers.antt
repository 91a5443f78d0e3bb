use Rattle.std.proofs.Common.{refl, subst, sym, true≢false}
use Rattle.wg_outside.specs.Outside.{Counts, NonDecreasing}
use Rattle.wg_outside.proofs.FilesLemmas.{none_falls-refl}
use Rattle.wg_io.proofs.CountLemmas.{more_wants, more_write_faults, no_error, write_error}
use Rattle.wg_io.proofs.folder.FolderDepotDepot.append.Goals as goal

pub returns-in-Err : goal.returns-in-Err
returns-in-Err g c =
    let r = c.refused_write.ensures in
    let now = c.refused_write.new.self in
    record {
      count = tt;
      ok = λ t. tt;
      err = refl;
      failed = λ e. more_write_faults _ _ now c.self.view_is (r.failed (write_error _ _ e));
      memory = λ e. more_wants _ _ now c.self.view_is (r.memory (write_error _ _ e));
      later = subst (λ (n : Counts). NonDecreasing (λ _. n) (λ _. now)) c.self.view_is r.later;
    }

pub returns-in-Ok : goal.returns-in-Ok
returns-in-Ok g c = record {
  count = c.in-Ok.ensures;
  ok = λ t. absurd (true≢false (sym t));
  err = tt;
  failed = λ e. no_error _ _ _ _ e;
  memory = λ e. no_error _ _ _ _ e;
  later = subst (λ (n : Counts). NonDecreasing (λ _. n) (λ _. c.self.inside.tally)) c.self.view_is (none_falls-refl _);
}
