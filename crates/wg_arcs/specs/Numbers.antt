-- The numbers that a text holds, each on a line of its own, or its first fault.
use Rattle.std.specs.Prelude.{◌≡◌, ℕ, ◌+◌, nat_le, nat_lt, if◌then◌else◌, List, [], ◌∷◌, ◌++◌, length, Option, Some, None, Result, Ok, Err}
use Rattle.wg_num.specs.Decimal.{number_of}
use Rattle.wg_num.specs.Lines.{lines_of}
use Rattle.wg_num.specs.Words.{words_of}
use Rattle.wg_arcs.specs.Reading.{is_skipped}
use Rattle.wg_arcs.specs.declared.numbers_fault.NumbersError.{NumbersError}
use Rattle.wg_arcs.specs.declared.numbers_fault.NumbersError.TheVariants as error
use Rattle.wg_arcs.specs.declared.numbers_fault.NumbersFault.{NumbersFault}
use Rattle.wg_arcs.specs.declared.numbers_fault.NumbersFault.TheVariants as fault
use Rattle.wg_arcs.specs.declared.numbers_fault.NumbersKind.TheVariants as kind

-- the number that a line's words write: one decimal number, and nothing else
abbrev pub number_in : List (List ℕ) → Option ℕ
number_in (word ∷ []) = number_of word
number_in words = None

-- a line's number after so many others, if n below a limit are wanted, or why the line is refused
abbrev pub judged : ℕ → ℕ → ℕ → ℕ → Option ℕ → Result (List ℕ) NumbersFault
judged n limit line before None = Err (fault.Line line kind.Shape)
judged n limit line before (Some v) =
    if nat_le limit v then Err (fault.Line line kind.Range)
    else if nat_lt before n then Ok (v ∷ []) else Err (fault.Line line kind.TooMany)

-- the numbers on a line, none if it is skipped, and one or a fault elsewhere
abbrev pub numbers_on : ℕ → ℕ → ℕ → ℕ → List ℕ → Result (List ℕ) NumbersFault
numbers_on n limit line before text =
    if is_skipped (words_of text) then Ok [] else judged n limit line before (number_in (words_of text))

-- these numbers, and those that come after them
abbrev pub and_then : Result (List ℕ) NumbersFault → (List ℕ → Result (List ℕ) NumbersFault)
    → Result (List ℕ) NumbersFault
and_then (Ok xs) next = next xs
and_then (Err e) next = Err e

-- the numbers on the lines from this one on, after so many others, or the first fault
abbrev pub numbers_from : ℕ → ℕ → ℕ → ℕ → List (List ℕ) → Result (List ℕ) NumbersFault
numbers_from n limit line before [] = if nat_lt before n then Err (fault.Count before) else Ok []
numbers_from n limit line before (text ∷ lines) =
    and_then (numbers_on n limit line before text) (λ these.
    and_then (numbers_from n limit (line + 1) (before + length these) lines) (λ others. Ok (these ++ others)))

-- the n numbers below a limit that a text holds, or its first fault
unfoldable pub numbers_of : ℕ → ℕ → List ℕ → Result (List ℕ) NumbersFault
numbers_of n limit bytes = numbers_from n limit 1 0 (lines_of bytes)

-- these are the numbers, or this is the first fault, or memory ran out
abbrev pub AreRead : Result (List ℕ) NumbersFault → Result (List ℕ) NumbersError → Type 0
AreRead told (Ok list) = told ≡ Ok list
AreRead told (Err (error.Fault f)) = told ≡ Err f
AreRead told (Err error.Memory) = Unit {0}

-- a line's numbers were added
abbrev pub AreAdded : Result (List ℕ) NumbersFault → List ℕ → List ℕ → Type 0
AreAdded told old new = (these : List ℕ) × (told ≡ Ok these) × (new ≡ old ++ these)

-- the line has this fault, or memory ran out
abbrev pub IsRefused : Result (List ℕ) NumbersFault → NumbersError → Type 0
IsRefused told (error.Fault f) = told ≡ Err f
IsRefused told error.Memory = Unit {0}
