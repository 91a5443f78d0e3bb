use Rattle.std.proofs.Common.{ap, subst, sym, Some}
use Rattle.wg_outside.proofs.PutsLemmas.{is_that_err}
use Rattle.wg_outcomes.specs.{Judged.with_claim, Names.certificate_named, declared.status.Input.TheVariants.Certificate}
use Rattle.wg_outcomes.proofs.Statuses.{IsOwn}
use Rattle.wg_readings.specs.Loading.{IsBadCertificate}
use Rattle.wg_readings.proofs.LoadLemmas.{named_loaded, named_unloaded}
use Rattle.wg_readings.proofs.loading.load_certificate.Goals as goal

pub returns-in_err-bytes : goal.returns-in_err-bytes
returns-in_err-bytes g c =
    let names = certificate_named c.args.name.now in
    let k = named_unloaded Certificate names IsBadCertificate (with_claim c.args.nodes) _ _ _ _ _ _ (c.in_err-bytes.ensures names (ap Some (sym c.as_str.ensures))) in
    rw (is_that_err c.from_residual.result _ c.from_residual.ensures.1) (record { reads = k; pages = tt })

pub returns : goal.returns
returns g c =
    let names = certificate_named c.args.name.now in
    let e = c.claim_of_text.ensures in
    let k = named_loaded Certificate names IsBadCertificate (with_claim c.args.nodes) _ _ _ _ _ c.in_ok-bytes.bytes _ c.as_slice.ensures
    (c.in_ok-bytes.ensures names (ap Some (sym c.as_str.ensures))) (λ x fault. subst IsOwn (sym fault.1) tt) c.claim_of_text.result e.steps e.only in
    record { reads = k; pages = e.pages }
