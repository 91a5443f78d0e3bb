use Rattle.std.proofs.Common.{◌∙◌, ℕ, List, Option, Some, Ok, Err, ap, refl, subst, sym}
use Rattle.wg_outside.proofs.PutsLemmas.{is_that_err}
use Rattle.wg_outcomes.specs.{Judged.Judged, Judged.with_weights, Names.weights_named}
use Rattle.wg_outcomes.specs.declared.status.Input.TheVariants.{Weights}
use Rattle.wg_outcomes.proofs.Statuses.{IsOwn}
use Rattle.wg_readings.specs.Loading.{IsBadWeights}
use Rattle.wg_readings.proofs.LoadLemmas.{named_loaded, named_unloaded}
use Rattle.wg_readings.proofs.loading.load_weights.Goals as goal

abbrev weigh : ℕ → List ℕ → (Option (List ℕ) → Judged) → Judged
weigh n bytes next = with_weights n bytes (λ ws. next (Some ws))

pub returns-in_err-bytes : goal.returns-in_err-bytes
returns-in_err-bytes g c =
    let names = weights_named (Some c.as_str.result.now) in
    let k = named_unloaded Weights names (IsBadWeights c.args.nodes) (weigh c.args.nodes) _ _ _ _ _ _ (c.in_err-bytes.ensures names refl) in
    rw (c.in-Some.is ∙ ap Some (sym c.as_str.ensures), is_that_err c.from_residual.result _ c.from_residual.ensures.1) (record { reads = k; some = refl; weights = tt; alike = λ none. tt })

pub returns-in_err-weights : goal.returns-in_err-weights
returns-in_err-weights g c =
    let names = weights_named (Some c.as_str.result.now) in
    let e = c.in_err-weights.ensures in
    let k = named_loaded Weights names (IsBadWeights c.args.nodes) (weigh c.args.nodes) _ _ _ _ _ c.in_ok-bytes.bytes _ c.as_slice.ensures (c.in_ok-bytes.ensures names refl) (λ x fault. subst IsOwn (sym fault.1) tt)
    (Err c.in_err-weights.field-0.0) (λ next. e.steps (λ ws. next (Some ws))) e.only in
    rw (c.in-Some.is ∙ ap Some (sym c.as_str.ensures), is_that_err c.from_residual-in_err-weights.result _ c.from_residual-in_err-weights.ensures.1) (record { reads = k; some = refl; weights = tt; alike = λ none. tt })

pub returns : goal.returns
returns g c =
    let names = weights_named (Some c.as_str.result.now) in
    let w = c.in_ok-weights.ensures in
    let k = named_loaded Weights names (IsBadWeights c.args.nodes) (weigh c.args.nodes) _ _ _ _ _ c.in_ok-bytes.bytes _ c.as_slice.ensures (c.in_ok-bytes.ensures names refl) (λ x fault. subst IsOwn (sym fault.1) tt)
    (Ok (Some c.in_ok-weights.weights)) (λ next. w.steps (λ ws. next (Some ws))) tt in
    rw (c.in-Some.is ∙ ap Some (sym c.as_str.ensures)) (record { reads = k; some = tt; weights = w.weights; alike = λ none. absurd (cc none) })
