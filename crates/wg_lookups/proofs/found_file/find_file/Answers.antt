use Rattle.std.proofs.Common.{rules, ◌≡◌, ◌∙◌, false, true, Err, Ok, Some, Result, ap, refl}
use Rattle.std.specs.FinMap as map
use Rattle.std.proofs.lemmas.Result.{IfOk-from_err}
use Rattle.wg_outside.proofs.{FilesLemmas.none_falls-refl, PutsLemmas.is_that_err}
use Rattle.wg_outside.specs.declared.whole.LoadError.{LoadError}
use Rattle.wg_outside.specs.declared.whole.LoadError.TheVariants as load
use Rattle.wg_outcomes.specs.Names.{file_of}
use Rattle.wg_source.specs.Held.{HeldBytes}
use Rattle.wg_readings.proofs.{FindingLemmas.found_open, FindingLemmas.not_found, LoadLemmas.loads_none}
use Rattle.wg_readings.proofs.PassLemmas.{found_after}
use Rattle.wg_lookups.proofs.found_file.find_file.Goals as goal

abbrev failed : LoadError → Result (Unit {0}) LoadError
failed e = Err e

abbrev done : Result (Unit {0}) LoadError
done = Ok tt

not_absent : done ≡ failed load.Absent → ⊥
not_absent is = cc is

not_looked : false ≡ true → ⊥
not_looked is = cc is

same_error : (e f : LoadError) → failed e ≡ failed f → e ≡ f
same_error e f is = cc is

pub returns-in_err-name : goal.returns-in_err-name
returns-in_err-name g c = record {
  same = refl;
  later = none_falls-refl _;
  name = IfOk-from_err c.from_residual.result _ c.from_residual.ensures.0;
  start = IfOk-from_err c.from_residual.result _ c.from_residual.ensures.0;
  found = λ t. IfOk-from_err c.from_residual.result _ c.from_residual.ensures.0;
  ends = rw (is_that_err c.from_residual.result _ c.from_residual.ensures.1) (loads_none _ _ _ _ _ _ refl);
}

pub returns-in-Ok : goal.returns-in-Ok
returns-in-Ok g c =
    let files = g.D.Depot.files c.args.depot.now in
    let fresh = c.new-held.ensures in
    let named = c.as_str.ensures in
    let r = c.in-Ok.ensures in
    record {
      same = r.steps.same;
      later = r.steps.later;
      name = search rules;
      start = ap (λ (h : HeldBytes). h.at) r.ok ∙ ap (λ (h : HeldBytes). h.at) fresh;
      found = λ t.
          let found = found_after (map.get files c.in_ok-name.name) false
          (λ none unlooked. absurd (not_absent (r.absent t (ap (map.get files) named ∙ none) (ap (λ (h : HeldBytes). h.looked) fresh))))
          (λ looked. absurd (not_looked looked)) in
          found_open files c.in_ok-name.name g.D.Depot.told _ _ _ c.new-held.result c.look.new.self found t fresh (ap (λ (h : HeldBytes). h.looked) r.ok) (rw named at r.steps);
      ends = tt;
    }

pub returns-in-Err : goal.returns-in-Err
returns-in-Err g c =
    let fresh = c.new-held.ensures in
    let e = c.in-Err.ensures in
    let named : file_of c.args.base.now c.args.input ≡ Some c.as_str.result.now = search rules in
    record {
      same = e.steps.same;
      later = e.steps.later;
      name = tt;
      start = tt;
      found = λ t. tt;
      ends =
          not_found c.args.input (file_of c.args.base.now) c.as_str.result.now g.D.Depot.told _ _ _ _ c.new-held.result c.look.new.self c.in-Err.error _ named c.unread.ensures.status fresh e.steps e.cause
          (λ t none. same_error _ _ (e.absent t none (ap (λ (h : HeldBytes). h.looked) fresh)));
    }
