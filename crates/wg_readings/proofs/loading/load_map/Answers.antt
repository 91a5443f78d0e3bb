use Rattle.std.proofs.Common.{ap, subst, sym, Some}
use Rattle.wg_outside.proofs.PutsLemmas.{is_that_err}
use Rattle.wg_outcomes.specs.{Judged.with_map, Names.map_named, declared.status.Input.TheVariants.Map}
use Rattle.wg_outcomes.proofs.Statuses.{IsOwn}
use Rattle.wg_readings.specs.Loading.{IsBadMap}
use Rattle.wg_readings.proofs.LoadLemmas.{named_loaded, named_unloaded}
use Rattle.wg_readings.proofs.loading.load_map.Goals as goal

pub returns-in_err-bytes : goal.returns-in_err-bytes
returns-in_err-bytes g c =
    let names = map_named c.args.name.now in
    let k = named_unloaded Map names (IsBadMap c.args.nodes) (with_map c.args.nodes c.args.limit) _ _ _ _ _ _ (c.in_err-bytes.ensures names (ap Some (sym c.as_str.ensures))) in
    rw (is_that_err c.from_residual.result _ c.from_residual.ensures.1) (record { reads = k; each = tt; below = tt })

pub returns : goal.returns
returns g c =
    let names = map_named c.args.name.now in
    let e = c.classes_of_text.ensures in
    let k = named_loaded Map names (IsBadMap c.args.nodes) (with_map c.args.nodes c.args.limit) _ _ _ _ _ c.in_ok-bytes.bytes _ c.as_slice.ensures
    (c.in_ok-bytes.ensures names (ap Some (sym c.as_str.ensures))) (λ x fault. subst IsOwn (sym fault.1) tt) c.classes_of_text.result e.steps e.only in
    record { reads = k; each = e.each; below = e.below }
