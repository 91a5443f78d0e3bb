use Rattle.std.proofs.Common.{ℕ, ◌<◌, ◌≤◌, ◌^◌, refl, arith}
use Rattle.std.proofs.lemmas.Bool.{leb-true}
use Rattle.wg_params.specs.Codes.{IsCode}
use Rattle.wg_params.specs.declared.code.Code.{Code}
use Rattle.wg_params.specs.declared.code.Code.TheVariants.{Unary, Gamma, Delta, Zeta, Nibble}
use Rattle.wg_codes.specs.Words.{top}
use Rattle.wg_greedy.proofs.NoReference.{zeta_holds}
use Rattle.wg_encoder.proofs.cost.has_word.Goals as goal

low_held : (code : Code) (v : ℕ) → IsCode code → v < 2 ^ 32 → v ≤ top code
low_held Unary v is low = omega arith
low_held Gamma v is low = omega arith
low_held Delta v is low = omega arith
low_held (Zeta k) v is low = leb-true v (top (Zeta k)) (zeta_holds k v is.0 is.1 (omega arith))
low_held Nibble v is low = omega arith

pub returns-then-value : goal.returns-then-value
returns-then-value c = (λ t. low_held c.args.code c.args.value c.requires (omega (arith, c.if-value.true)), λ le. refl)
