-- The bits of an offsets file: a word for each page and one more, and the tail.
use Rattle.std.specs.Prelude.{◌≡◌, ◌⊎◌, ℕ, ◌+◌, ◌≤◌, Bool, ◌&&◌, ◌==◌, nat_lt, if◌then◌else◌, List, [], ◌∷◌, ◌++◌}
use Rattle.std.specs.Prelude.{length, drop, sum, Option, Some, None, Result, Ok, Err}
use Rattle.wg_params.specs.declared.code.Code.{Code}
use Rattle.wg_codes.specs.declared.outcome.Read.{Read}
use Rattle.wg_codes.specs.declared.outcome.Read.TheVariants.{Value, Cut, NoWord}
use Rattle.wg_codes.specs.Words.{word, top}
use Rattle.wg_codes.specs.Reading.{Reads}
use Rattle.wg_graph.specs.Copied.{ends_of}
use Rattle.wg_grammar.specs.Archive.{IsTail, IsTailFault}
use Rattle.wg_grammar.specs.declared.fault.OffsetWord.{OffsetWord}
use Rattle.wg_grammar.specs.declared.fault.OffsetWord.TheVariants as faults
use Rattle.wg_offsets.specs.declared.places.TheConstants.{MOST_PLACE}

-- an offset for each value: the sum of the values up to it
abbrev pub places_of : List ℕ → List ℕ
places_of values = ends_of 0 values

-- Why a word is refused, if so many words stand before it and lead to this offset: it is cut; it is none; the first
-- is not 0; or it leads past the last bit that a graph file may have.
abbrev pub refusal : ℕ → ℕ → Read → Option OffsetWord
refusal number offset Cut = Some (faults.Cut number)
refusal number offset NoWord = Some (faults.NoWord number)
refusal number offset (Value v) =
    if number == 0 && nat_lt 0 v then Some faults.First
    else if nat_lt MOST_PLACE (offset + v) then Some (faults.TooFar number)
    else None

-- After the words of the values before, the words of vs stand one after the other from the bit at, and none is refused;
-- then last are the values, and end is reached.
abbrev pub Words : Code → List Bool → List ℕ → ℕ → List ℕ → List ℕ → ℕ → Type 0
Words c bits before at [] last end = (last ≡ before) × (end ≡ at)
Words c bits before at (v ∷ vs) last end =
    Reads (word c) (top c) (drop at bits) (Value v) × (refusal (length before) (sum before) (Value v) ≡ None)
    × Words c bits (before ++ v ∷ []) (at + length (word c v)) vs last end

-- what stands at the bit at is refused, if so many words stand before it and lead to this offset
abbrev pub IsRefused : Code → List Bool → ℕ → ℕ → ℕ → OffsetWord → Type 0
IsRefused c bits number offset at e = (r : Read) × Reads (word c) (top c) (drop at bits) r
    × (refusal number offset r ≡ Some e)

-- the tail is refused
abbrev pub HasNoTail : List Bool → ℕ → OffsetWord → Type 0
HasNoTail bits at e = (offset : ℕ) × IsTailFault bits at offset × (e ≡ faults.Tail offset)

-- what the file is, if the words of these values stand and no more are taken
abbrev pub EndsAs : Code → ℕ → List Bool → List ℕ → ℕ → Result (List ℕ) OffsetWord → Type 0
EndsAs c n bits values at (Ok places) = (length values ≡ n + 1) × IsTail bits at × (places ≡ places_of values)
EndsAs c n bits values at (Err e) =
    ((length values ≤ n) × IsRefused c bits (length values) (sum values) at e)
    ⊎ ((length values ≡ n + 1) × HasNoTail bits at e)

-- The bits are the offsets file of n records with these places, or this is their first fault.
abbrev pub ReadsOffsets : Code → ℕ → List Bool → Result (List ℕ) OffsetWord → Type 0
ReadsOffsets c n bits w = (vs : List ℕ) × (values : List ℕ) × (at : ℕ) × Words c bits [] 0 vs values at
    × EndsAs c n bits values at w
