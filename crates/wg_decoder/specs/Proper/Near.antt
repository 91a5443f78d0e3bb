-- Bits that are at hand as a number.
use Rattle.std.specs.Prelude.{◌≡◌, ℕ, ◌<◌, ◌≤◌, Bool, false, List, get_or}
use Rattle.wg_bits.specs.Bits.{low_bits}

-- so many of these 64 bits, from the first on, are those that the list begins with, with zero bits past its end
abbrev pub IsNear : ℕ → ℕ → List Bool → Type 0
IsNear near known z = (known ≤ 64) × ((i : ℕ) → i < known → get_or (low_bits 64 near) i false ≡ get_or z i false)
