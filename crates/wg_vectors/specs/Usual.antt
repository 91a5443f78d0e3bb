-- The parameters of worked archives.
use Rattle.std.specs.Prelude.{ℕ, Some}
use Rattle.wg_params.specs.Parameters.{Parameters, params_of, default_codes}

-- those of an archive in the default codes, with k = 3
abbrev pub usual_parameters : ℕ → ℕ → ℕ → ℕ → ℕ → Parameters
usual_parameters nodes arcs window chain interval = params_of
    (record { window = window; chain = Some chain; interval = interval; zeta = 3; codes = default_codes 3 })
    nodes arcs
