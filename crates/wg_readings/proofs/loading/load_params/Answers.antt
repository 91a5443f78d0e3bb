use Rattle.std.proofs.Common.{◌∙◌, ◌≡◌, inr, ap, subst, sym, Some}
use Rattle.std.proofs.lemmas.Result.{IfOk-weaker}
use Rattle.wg_outside.proofs.PutsLemmas.{is_that_err}
use Rattle.wg_properties.specs.declared.fault.PropFault.{PropFault}
use Rattle.wg_outcomes.specs.{Judged.with_parameters, declared.ending.Ending.Ending}
use Rattle.wg_outcomes.specs.declared.status.Input.TheVariants.{Properties}
use Rattle.wg_outcomes.specs.declared.status.Status.TheVariants.{BadProperties}
use Rattle.wg_outcomes.proofs.Statuses.{IsOwn}
use Rattle.wg_readings.proofs.LoadLemmas.{loaded_by, named_unloaded}
use Rattle.wg_readings.proofs.loading.load_params.Goals as goal

abbrev IsBad : Ending → Type 0
IsBad e = (f : PropFault) × (e.status ≡ BadProperties f)

pub returns-in_err-text : goal.returns-in_err-text
returns-in_err-text g c =
    let k = named_unloaded Properties _ IsBad with_parameters _ _ _ _ _ _ c.in_err-text.ensures in
    rw (is_that_err c.from_residual.result _ c.from_residual.ensures.1) (record { steps = k.steps; given = λ t. tt; only = k.only; causes = k.causes; same = k.same; later = k.later })

pub returns : goal.returns
returns g c =
    let e = c.parameters.ensures in
    let l = c.in_ok-text.ensures in
    let k = loaded_by Properties _ IsBad with_parameters _ _ _ _ _ c.in_ok-text.text _ c.as_slice.ensures l IsBad (λ x fault. (subst IsOwn (sym fault.1) tt, inr fault)) c.parameters.result e.steps e.only in
    record {
      steps = k.steps;
      given = λ t. IfOk-weaker c.parameters.result _ _ (λ p gives. record { text = c.as_slice.result.now; is = l.held t ∙ ap Some (sym c.as_slice.ensures); gives = gives }) e.value;
      only = k.only;
      causes = k.causes;
      same = k.same;
      later = k.later;
    }
