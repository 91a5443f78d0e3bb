use Rattle.std.proofs.Common.{rules, sym, ◌∙◌, ap, if◌then◌else◌, None, Some, false}
use Rattle.wg_params.specs.declared.key.Key.TheVariants as key
use Rattle.wg_params.proofs.params.Params.with_layout.Goals as goal

-- no number is out of its limits, and so the codes decide
pub returns-then-not-has_its_codes-clause-bad : goal.returns-then-not-has_its_codes-clause-bad
returns-then-not-has_its_codes-clause-bad c =
    c.in_default.ensures.good (search rules)
    ∙ ap (λ b. if b then None else Some key.CompressionFlags) {y = false} (sym (c.has_its_codes.ensures.value) ∙ search rules)
