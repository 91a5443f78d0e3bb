use Rattle.std.proofs.Common.{◌∙◌, List, ℕ, ap, sym, subst}
use Rattle.wg_vectors.specs.Generated.{generated}
use Rattle.wg_outcomes.specs.Bulk.{IsBuilt}
use Rattle.wg_outcomes.proofs.WritingLemmas.{if_that_err}
use Rattle.wg_encoder.specs.ArchiveInMemory.{Summarized}
use Rattle.wg_builds.proofs.BulkLemmas.{built_in}
use Rattle.wg_builds.proofs.generated.try_generated.Goals as goal

pub returns-in_err-checked-clause-only : goal.returns-in_err-checked-clause-only
returns-in_err-checked-clause-only c =
    let g = generated c.args.seed c.args.pages in
    let built = subst (λ (b : List ℕ). IsBuilt g b c.into_depot-depot.result.files) (sym c.in_ok-base.ensures) (built_in g _ _ c.in_ok-archive.ensures.sound c.in_ok-archive.ensures.is c.into_depot-depot.ensures) in
    if_that_err _ _ _ c.from_residual-in_err-checked.ensures.1 (c.in_err-checked.ensures.only g built)

pub returns-in_err-bounds-clause-only : goal.returns-in_err-bounds-clause-only
returns-in_err-bounds-clause-only c =
    let g = generated c.args.seed c.args.pages in
    let built = subst (λ (b : List ℕ). IsBuilt g b c.into_depot-depot.result.files) (sym c.in_ok-base.ensures) (built_in g _ _ c.in_ok-archive.ensures.sound c.in_ok-archive.ensures.is c.into_depot-depot.ensures) in
    if_that_err _ _ _ c.from_residual-in_err-bounds.ensures.1
    (c.in_err-bounds.ensures.only g (subst (IsBuilt g c.in_ok-base.base) (sym c.judge.ensures.same) built) (c.in_ok-checked.ensures.params g built))

pub returns-clause-value : goal.returns-clause-value
returns-clause-value c = λ r.
    let g = generated c.args.seed c.args.pages in
    let built = subst (λ (b : List ℕ). IsBuilt g b c.into_depot-depot.result.files) (sym c.in_ok-base.ensures) (built_in g _ _ c.in_ok-archive.ensures.sound c.in_ok-archive.ensures.is c.into_depot-depot.ensures) in
    let checked = c.in_ok-checked.ensures in
    let params = checked.params g built in
    c.summed.ensures r g params (checked.bits g built) (c.referring-referring.ensures ∙ ap (λ (x : Summarized). x.summary.referring) c.in_ok-archive.ensures.is)
    (c.in_ok-bounds.ensures.value g (subst (IsBuilt g c.in_ok-base.base) (sym c.judge.ensures.same) built) params)
