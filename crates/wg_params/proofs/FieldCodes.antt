-- A field's code is one of a few: what holds of each of these holds of it.
use Rattle.std.proofs.Common.{◌≡◌, ℕ, true, sym, subst}
use Rattle.std.proofs.lemmas.Bool.{eqb-true}
use Rattle.wg_params.specs.Codes.{is_gamma_or_delta, is_unary_gamma_or_delta, is_residual_code}
use Rattle.wg_params.specs.declared.code.Code.{Code}
use Rattle.wg_params.specs.declared.code.Code.TheVariants.{Unary, Gamma, Delta, Zeta, Nibble}

-- outdegrees, blocks and offsets
pub two_codes : (P : Code → Type 0) (code : Code) → is_gamma_or_delta code ≡ true → P Gamma → P Delta → P code
two_codes P Gamma is gamma delta = gamma
two_codes P Delta is gamma delta = delta
two_codes P _ is gamma delta = absurd cc

-- references and block counts
pub three_codes : (P : Code → Type 0) (code : Code) → is_unary_gamma_or_delta code ≡ true → P Unary → P Gamma → P Delta → P code
three_codes P Unary is unary gamma delta = unary
three_codes P Gamma is unary gamma delta = gamma
three_codes P Delta is unary gamma delta = delta
three_codes P _ is unary gamma delta = absurd cc

-- residuals
pub four_codes : (P : Code → Type 0) (zeta : ℕ) (code : Code) → is_residual_code zeta code ≡ true → P Gamma → P Delta → P (Zeta zeta) → P Nibble → P code
four_codes P zeta Gamma is gamma delta own nibble = gamma
four_codes P zeta Delta is gamma delta own nibble = delta
four_codes P zeta (Zeta k) is gamma delta own nibble = subst (λ n. P (Zeta n)) (sym (eqb-true k zeta is)) own
four_codes P zeta Nibble is gamma delta own nibble = nibble
four_codes P zeta Unary is gamma delta own nibble = absurd cc
