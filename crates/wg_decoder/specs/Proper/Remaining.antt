-- The residuals of a record, as the list that is still to come. Each is told from what stands at its own offset of the
-- bits.
use Rattle.std.specs.Prelude.{ℕ, zero, suc, Bool, List, [], ◌∷◌, Option, Some}
use Rattle.wg_params.specs.declared.code.Code.{Code}
use Rattle.wg_codes.specs.Fold.{number_of_gap}
use Rattle.wg_codes.specs.Standing.{value_at, behind_value}
use Rattle.wg_grammar.specs.SoFar.{value_or_0}

-- the residuals that are still to come, and the bits behind the last of them
pub record Remaining : Type 0 where
  pub list : List ℕ
  pub behind : List Bool

-- the n residuals that stand at the bits
unfoldable pub residuals_at : Code → ℕ → Option ℕ → ℕ → List Bool → List ℕ
residuals_at c page last zero z = []
residuals_at c page last (suc n) z =
    let y : ℕ = value_or_0 (number_of_gap page last (value_at c z)) in
    y ∷ residuals_at c page (Some y) n (behind_value c z)

-- the bits behind the n words that stand at the bits
unfoldable pub behind_values : Code → ℕ → List Bool → List Bool
behind_values c zero z = z
behind_values c (suc n) z = behind_values c n (behind_value c z)
