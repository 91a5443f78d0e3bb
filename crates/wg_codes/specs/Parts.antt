-- Parts of words as the readers of this crate meet them: only contracts of its private functions cite this file.
use Rattle.std.specs.Prelude.{◌≡◌, ℕ, ◌+◌, ◌-◌, ◌*◌, ◌/◌, ◌^◌, ◌<◌, Bool, List, ◌++◌}
use Rattle.wg_bits.specs.Bits.{low_bits}
use Rattle.wg_codes.specs.Reading.{ProperlyBegins}
use Rattle.wg_codes.specs.Words.{highest, shortened}

-- v is one less than a number whose highest one stands at m, and whose lower bits stand in front
pub record IsNumberAt (m v : ℕ) (z1 z2 : List Bool) : Type 0 where
  pub index : highest (v + 1) ≡ m
  pub below : v < 2 ^ (m + 1) - 1
  pub bits : z1 ≡ low_bits m (v + 1) ++ z2

-- v is one less than a y whose highest one stands at one of k places from h * k on; its shortened form stands in front
pub record IsShortenedAt (k h v : ℕ) (z1 z2 : List Bool) : Type 0 where
  pub index : highest (v + 1) / k ≡ h
  pub below : v < 2 ^ (h * k + k) - 1
  pub bits : z1 ≡ shortened k h (v + 1) ++ z2

-- what stands in front is too little of the shortened form of some such number
pub record IsCutAt (k h : ℕ) (z : List Bool) : Type 0 where
  pub v : ℕ
  pub index : highest (v + 1) / k ≡ h
  pub below : v < 2 ^ (h * k + k) - 1
  pub cut : ProperlyBegins z (shortened k h (v + 1))
