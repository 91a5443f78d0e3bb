-- What is held of a file that is read in pieces.
use Rattle.std.specs.Prelude.{◌≡◌, ◌⊎◌, ℕ, ◌+◌, ◌-◌, ◌*◌, ◌/◌, ◌≤◌, Bool, true, List, [], ◌++◌, length, drop}
use Rattle.wg_outside.specs.declared.limits.TheConstants.{MOST_BYTES}
use Rattle.wg_bits.specs.Bits.{bits_of}
use Rattle.wg_source.specs.declared.stretch.TheConstants.{MOST_HELD}

-- some bytes; the offset of the first of them in the file; the offset of the next bit; whether the file has no more
-- bytes; and whether the file was found to be no longer than the limit
pub record HeldBytes : Type 0 where
  pub bytes : List ℕ
  pub first : ℕ
  pub at : ℕ
  pub ended : Bool
  pub looked : Bool

-- the bytes that are held stand in the file from that offset on, and what is known of the file's end is right
pub record IsHeldOf (file : List ℕ) (h : HeldBytes) : Type 0 where
  pub before : List ℕ
  pub behind : List ℕ
  pub whole : file ≡ before ++ (h.bytes ++ behind)
  pub offset : length before ≡ h.first
  pub ended : h.ended ≡ true → behind ≡ []
  pub short : h.looked ≡ true → length file ≤ MOST_BYTES

-- the bits that are held from the next one on
abbrev pub ahead : HeldBytes → List Bool
ahead h = drop (h.at - 8 * h.first) (bits_of h.bytes)

-- from the byte of the next bit on so many bytes are held, or all that the file has
abbrev pub HoldsNext : ℕ → HeldBytes → Type 0
HoldsNext most h = (h.ended ≡ true) ⊎ (h.at / 8 + most ≤ h.first + length h.bytes)

-- the next bit is one of those that are held, or the one after them
pub record IsInside (h : HeldBytes) : Type 0 where
  pub from : 8 * h.first ≤ h.at
  pub to : h.at ≤ 8 * (h.first + length h.bytes)

-- no more bytes are held than that, and they begin no later than the next bit
pub record IsSmall (h : HeldBytes) : Type 0 where
  pub few : length h.bytes ≤ MOST_HELD
  pub from : 8 * h.first ≤ h.at
