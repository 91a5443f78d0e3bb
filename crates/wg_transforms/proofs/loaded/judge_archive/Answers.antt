use Rattle.std.proofs.Common.{inl, inr, refl}
use Rattle.wg_grammar.specs.Archive.{Accepted}
use Rattle.wg_outside.proofs.{FilesLemmas.none_falls-refl, PutsLemmas.is_that_err}
use Rattle.wg_transforms.proofs.loaded.judge_archive.Goals as goal

pub returns-in_err-found : goal.returns-in_err-found
returns-in_err-found g c =
    let r = c.in_err-found.ensures in
    rw (is_that_err c.from_residual.result _ c.from_residual.ensures.1) (record { limits = r.limits; goes = tt; ends = inl (r.only, r.refused, refl, none_falls-refl _) })

pub returns-in_err-judge_offsets : goal.returns-in_err-judge_offsets
returns-in_err-judge_offsets g c =
    let r = c.in_ok-found.ensures in
    let a : Accepted = record { graph = r.finds.0; places = c.in_ok-found.found.offsets } in
    rw (is_that_err c.from_residual-in_err-judge_offsets.result _ c.from_residual-in_err-judge_offsets.ensures.1)
    (record { limits = r.limits; goes = tt; ends = inr (a, r.finds.1, c.in_err-judge_offsets.ensures) })

pub returns : goal.returns
returns g c =
    let r = c.in_ok-found.ensures in
    let a : Accepted = record { graph = r.finds.0; places = c.in_ok-found.found.offsets } in
    record { limits = r.limits; goes = (a, (r.finds.1, r.finds.2), c.in_ok-judge_offsets.ensures); ends = tt }
