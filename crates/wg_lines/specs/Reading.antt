-- A file that is read in whole lines.
use Rattle.std.specs.Prelude.{◌≡◌, ◌≢◌, ◌⊎◌, ℕ, ◌+◌, ◌≤◌, List, [], ◌∷◌, ◌++◌, length, take, drop, All, Option, Some, None}
use Rattle.wg_outside.specs.declared.limits.TheConstants.{MOST_BYTES}
use Rattle.wg_num.specs.Lines.{lines_of}
use Rattle.wg_lines.specs.declared.reading.TheConstants.{PIECE}

-- lines that are lent, and the bytes that were read behind them; they stand in the file one after the other, from this
-- offset on
pub record HeldLines : Type 0 where
  pub first : ℕ
  pub lines : List ℕ
  pub rest : List ℕ

-- of these bytes, which stand in the file from this offset on, the first so many are lent
abbrev pub held_lines : ℕ → ℕ → List ℕ → HeldLines
held_lines first whole bytes = record { first = first; lines = take whole bytes; rest = drop whole bytes }

-- these bytes are part of one line, without its end
abbrev pub IsUnended : List ℕ → Type 0
IsUnended bytes = All (λ b. b ≢ 10) bytes

-- What is held is part of one line, and up to a piece behind it. All lines that end there are lent.
pub record HoldsAPiece (h : HeldLines) : Type 0 where
  pub line : List ℕ
  pub piece : List ℕ
  pub is : h.lines ++ h.rest ≡ line ++ piece
  pub one : IsUnended line
  pub few : length piece ≤ PIECE
  pub rest : IsUnended h.rest

-- the offset of the first byte that was not read yet
abbrev pub end_of : HeldLines → ℕ
end_of h = h.first + length h.lines + length h.rest

-- the lines of a file that come after those that are lent
abbrev pub lines_after : List ℕ → HeldLines → List (List ℕ)
lines_after file h = lines_of (h.rest ++ drop (end_of h) file)

-- those that are lent, and all that come after them
abbrev pub lines_ahead : List ℕ → HeldLines → List (List ℕ)
lines_ahead file h = lines_of h.lines ++ lines_after file h

-- there is a file, and it has no more bytes than are read
abbrev pub IsReadable : Option (List ℕ) → Type 0
IsReadable None = ⊥
IsReadable (Some file) = length file ≤ MOST_BYTES

-- no bytes, or such that end in an LF
abbrev pub IsWhole : List ℕ → Type 0
IsWhole bytes = (bytes ≡ []) ⊎ ((front : List ℕ) × (bytes ≡ front ++ 10 ∷ []))
