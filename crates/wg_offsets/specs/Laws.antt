-- What holds of all offsets files.
use Rattle.std.specs.Prelude.{◌≡◌, ℕ, ◌+◌, Bool, List, length, Result, Ok}
use Rattle.wg_params.specs.declared.code.Code.{Code}
use Rattle.wg_params.specs.Codes.{IsCode}
use Rattle.wg_grammar.specs.declared.fault.OffsetWord.{OffsetWord}
use Rattle.wg_offsets.specs.Places.{ArePlaces}
use Rattle.wg_offsets.specs.Words.{ReadsOffsets}

-- Bits have at most one list of places, or at most one first fault, and never both.
abbrev pub OffsetsAreOne : Type 0
OffsetsAreOne =
    (c : Code) (n : ℕ) (bits : List Bool) (w x : Result (List ℕ) OffsetWord) → IsCode c → ReadsOffsets c n bits w
    → ReadsOffsets c n bits x → w ≡ x

-- They have a list of places or a fault.
abbrev pub OffsetsAreSome : Type 0
OffsetsAreSome = (c : Code) (n : ℕ) (bits : List Bool) → IsCode c → (w : Result (List ℕ) OffsetWord)
    × ReadsOffsets c n bits w

-- There is one offset more than there are records; the first is 0, none is below the one before it, and none is past
-- the last bit of a file.
abbrev pub PlacesAreWithin : Type 0
PlacesAreWithin =
    (c : Code) (n : ℕ) (bits : List Bool) (places : List ℕ) → ReadsOffsets c n bits (Ok places)
    → (length places ≡ n + 1) × ArePlaces places
