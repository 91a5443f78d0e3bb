-- The codes that a field may be in are codes.
use Rattle.std.proofs.Common.{◌≡◌, ℕ, ◌≤◌, true}
use Rattle.wg_params.specs.Codes.{IsCode, is_gamma_or_delta, is_unary_gamma_or_delta, is_residual_code}
use Rattle.wg_params.specs.declared.limits.TheConstants.{MOST_ZETA}
use Rattle.wg_params.specs.declared.code.Code.{Code}
use Rattle.wg_params.proofs.FieldCodes.{two_codes, three_codes, four_codes}

pub gamma_or_delta : (code : Code) → is_gamma_or_delta code ≡ true → IsCode code
gamma_or_delta code is = two_codes IsCode code is tt tt

pub unary_gamma_or_delta : (code : Code) → is_unary_gamma_or_delta code ≡ true → IsCode code
unary_gamma_or_delta code is = three_codes IsCode code is tt tt tt

pub residual_code : (zeta : ℕ) (code : Code) → 1 ≤ zeta → zeta ≤ MOST_ZETA → is_residual_code zeta code ≡ true → IsCode code
residual_code zeta code some few is = four_codes IsCode zeta code is tt tt (some, few) tt
