-- Numbers in a row.
use Rattle.std.specs.Prelude.{◌≡◌, ℕ, suc, ◌<◌, List, [], map, length, get_or}
use Rattle.std.specs.Int.{bit_at}
use Rattle.wg_intervals.specs.Canonical.{intervals_of, residuals_of}
use Rattle.wg_marks.specs.Masks.{places}

-- the numbers of the list at the set bits
abbrev pub members_at : List ℕ → ℕ → List ℕ
members_at list x = map (λ p. get_or list p 0) (places 64 0 x)

-- if the number after number i is the next number, bit i is set
abbrev pub TellsNext : List ℕ → ℕ → Type 0
TellsNext list next = (i : ℕ) → suc i < length list → get_or list (suc i) 0 ≡ suc (get_or list i 0) → bit_at next i ≡ 1

-- four numbers in a row from place i on
pub record AreFour (left next i : ℕ) : Type 0 where
  pub first : bit_at left i ≡ 1
  pub second : bit_at left (suc i) ≡ 1
  pub third : bit_at left (suc (suc i)) ≡ 1
  pub fourth : bit_at left (suc (suc (suc i))) ≡ 1
  pub next_first : bit_at next i ≡ 1
  pub next_second : bit_at next (suc i) ≡ 1
  pub next_third : bit_at next (suc (suc i)) ≡ 1

-- no interval of four or more is among these numbers, so all are residuals
pub record IsWithoutRows (numbers : List ℕ) : Type 0 where
  pub intervals : intervals_of 4 numbers ≡ []
  pub residuals : residuals_of 4 numbers ≡ numbers
