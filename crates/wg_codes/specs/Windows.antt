-- What 64 bits tell of the word that they begin with.
use Rattle.std.specs.Prelude.{◌≡◌, ℕ, ◌≤◌, Bool, List, length}
use Rattle.wg_bits.specs.Bits.{low_bits, front}
use Rattle.wg_codes.specs.Reading.{Reads}
use Rattle.wg_codes.specs.declared.outcome.Word.{Word}
use Rattle.wg_codes.specs.declared.outcome.Read.TheVariants.{Value}

-- Whatever bits begin with these 64, and are at least so many as the word has, the word stands at their front.
pub record Tells (words : ℕ → List Bool) (most window : ℕ) (w : Word) : Type 0 where
  pub few : w.bits ≤ 64
  pub size : w.bits ≡ length (words w.value)
  pub read : (z : List Bool) → low_bits 64 window ≡ front 64 z → w.bits ≤ length z → Reads words most z (Value w.value)
