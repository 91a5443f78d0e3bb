-- Which codes there are, and which field may be written in which.
use Rattle.std.specs.Prelude.{ℕ, ◌≤◌, Bool, true, false, ◌==◌}
use Rattle.wg_params.specs.declared.limits.TheConstants.{MOST_ZETA}
use Rattle.wg_params.specs.declared.code.Code.{Code}
use Rattle.wg_params.specs.declared.code.Code.TheVariants.{Unary, Gamma, Delta, Zeta, Nibble}

-- the parameter k of a zeta code is 1 to 31
abbrev pub IsCode : Code → Type 0
IsCode (Zeta k) = (1 ≤ k) × (k ≤ MOST_ZETA)
IsCode Unary = Unit {0}
IsCode Gamma = Unit {0}
IsCode Delta = Unit {0}
IsCode Nibble = Unit {0}

-- outdegrees, blocks and offsets: gamma or delta
abbrev pub is_gamma_or_delta : Code → Bool
is_gamma_or_delta Gamma = true
is_gamma_or_delta Delta = true
is_gamma_or_delta Unary = false
is_gamma_or_delta (Zeta k) = false
is_gamma_or_delta Nibble = false

-- references and block counts: unary, gamma or delta
abbrev pub is_unary_gamma_or_delta : Code → Bool
is_unary_gamma_or_delta Unary = true
is_unary_gamma_or_delta Gamma = true
is_unary_gamma_or_delta Delta = true
is_unary_gamma_or_delta (Zeta k) = false
is_unary_gamma_or_delta Nibble = false

-- residuals: gamma, delta, nibble, or zeta with the archive's own parameter k
abbrev pub is_residual_code : ℕ → Code → Bool
is_residual_code zeta Gamma = true
is_residual_code zeta Delta = true
is_residual_code zeta Nibble = true
is_residual_code zeta (Zeta k) = k == zeta
is_residual_code zeta Unary = false
