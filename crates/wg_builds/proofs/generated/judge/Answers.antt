use Rattle.std.proofs.Common.{refl, sym, subst}
use Rattle.wg_outcomes.specs.Bulk.{IsBuilt}
use Rattle.wg_builds.proofs.BulkLemmas.{bits_are, no_bits, no_params, params_are}
use Rattle.wg_outcomes.proofs.{PerformsLemmas.faultless, WritingLemmas.if_that_err}
use Rattle.wg_builds.proofs.generated.judge.Goals as goal

pub returns-in_err-params-clause-only : goal.returns-in_err-params-clause-only
returns-in_err-params-clause-only c = λ g is.
    if_that_err _ _ _ c.from_residual.ensures.1 (no_params g c.args.base.now _ is _ _ _ c.in_err-params.field-0.0 (faultless _ _ (λ n. (refl, refl, refl, refl))) c.in_err-params.ensures)

pub returns-in_err-bits-clause-only : goal.returns-in_err-bits-clause-only
returns-in_err-bits-clause-only c = λ g is.
    let base = c.args.base.now in
    let l = c.in_ok-params.ensures in
    if_that_err _ _ _ c.from_residual-in_err-bits.ensures.1
    (no_bits g base _ (subst (IsBuilt g base) (sym l.same) is) _ _ _ c.in_ok-params.params (params_are g base _ is c.in_ok-params.params (l.given refl)) c.in_err-bits.field-0.0 (faultless _ _ (λ n. (refl, refl, refl, refl))) c.in_err-bits.ensures)

pub returns-clause-params : goal.returns-clause-params
returns-clause-params c = λ g is. params_are g c.args.base.now _ is c.in_ok-params.params (c.in_ok-params.ensures.given refl)

pub returns-clause-bits : goal.returns-clause-bits
returns-clause-bits c = λ g is.
    let base = c.args.base.now in
    let l = c.in_ok-params.ensures in
    bits_are g base _ (subst (IsBuilt g base) (sym l.same) is) _ _ _ c.in_ok-params.params (params_are g base _ is c.in_ok-params.params (l.given refl)) c.in_ok-bits.bits c.in_ok-bits.ensures
