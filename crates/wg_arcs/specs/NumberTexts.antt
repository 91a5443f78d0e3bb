-- The numbers that a text stands for, if n of them below a limit are wanted, or its first fault.
use Rattle.std.specs.Prelude.{◌≡◌, ℕ, ◌+◌, ◌<◌, nat_le, nat_lt, if◌then◌else◌, List, [], ◌++◌, length, take, get_or}
use Rattle.std.specs.Prelude.{map, codes, decimal, Option, Some, None, Result, Ok, Err}
use Rattle.std.specs.List.{filter_map}
use Rattle.wg_outside.specs.Puts.{joined}
use Rattle.wg_num.specs.Lines.{lines_of}
use Rattle.wg_num.specs.Words.{words_of}
use Rattle.wg_arcs.specs.Reading.{is_skipped}
use Rattle.wg_arcs.specs.Numbers.{number_in}
use Rattle.wg_arcs.specs.declared.numbers_fault.NumbersError.{NumbersError}
use Rattle.wg_arcs.specs.declared.numbers_fault.NumbersError.TheVariants as error
use Rattle.wg_arcs.specs.declared.numbers_fault.NumbersFault.{NumbersFault}
use Rattle.wg_arcs.specs.declared.numbers_fault.NumbersFault.TheVariants as fault
use Rattle.wg_arcs.specs.declared.numbers_fault.NumbersKind.{NumbersKind}
use Rattle.wg_arcs.specs.declared.numbers_fault.NumbersKind.TheVariants as kind

-- ---- as it is written

-- the text of some numbers: a line for each
abbrev pub text_of_numbers : List ℕ → List ℕ
text_of_numbers xs = joined (map (λ v. decimal v ++ codes "\n") xs)

-- ---- as it is read

-- the number of a line that is not skipped
abbrev pub number_at : List ℕ → Option ℕ
number_at line = if is_skipped (words_of line) then None else number_in (words_of line)

-- the numbers of some lines
abbrev pub numbers_in : List (List ℕ) → List ℕ
numbers_in lines = filter_map number_at lines

-- why a number is refused after so many others, if it is
abbrev pub number_refusal : ℕ → ℕ → ℕ → Option ℕ → Option NumbersKind
number_refusal n limit before None = Some kind.Shape
number_refusal n limit before (Some v) =
    if nat_le limit v then Some kind.Range else if nat_lt before n then None else Some kind.TooMany

-- what is wrong with a line after so many numbers
abbrev pub number_fault : ℕ → ℕ → ℕ → List ℕ → Option NumbersKind
number_fault n limit before line =
    if is_skipped (words_of line) then None else number_refusal n limit before (number_in (words_of line))

-- the fault of line number i, counted from 0
abbrev pub number_fault_at : ℕ → ℕ → List (List ℕ) → ℕ → Option NumbersKind
number_fault_at n limit lines i = number_fault n limit (length (numbers_in (take i lines))) (get_or lines i [])

-- no line is faulty, and these are the numbers, as many as are wanted
pub record AreNumbers (n limit : ℕ) (lines : List (List ℕ)) (xs : List ℕ) : Type 0 where
  pub sound : (i : ℕ) → i < length lines → number_fault_at n limit lines i ≡ None
  pub numbers : xs ≡ numbers_in lines
  pub wanted : length xs ≡ n

-- the first faulty line, counted from 1
pub record IsFirstFaultyLine (n limit : ℕ) (lines : List (List ℕ)) (line : ℕ) (kind : NumbersKind) : Type 0 where
  pub index : ℕ
  pub counted : line ≡ index + 1
  pub there : index < length lines
  pub fault : number_fault_at n limit lines index ≡ Some kind
  pub sound : (i : ℕ) → i < index → number_fault_at n limit lines i ≡ None

-- no line is faulty, and there are so many numbers, fewer than are wanted
pub record AreTooFew (n limit : ℕ) (lines : List (List ℕ)) (found : ℕ) : Type 0 where
  pub sound : (i : ℕ) → i < length lines → number_fault_at n limit lines i ≡ None
  pub counted : found ≡ length (numbers_in lines)
  pub few : found < n

-- the first fault: a faulty line, or, if none is, that numbers are missing
abbrev pub IsFirstNumberFault : ℕ → ℕ → List (List ℕ) → NumbersFault → Type 0
IsFirstNumberFault n limit lines (fault.Line line kind) = IsFirstFaultyLine n limit lines line kind
IsFirstNumberFault n limit lines (fault.Count found) = AreTooFew n limit lines found

-- these are the numbers of the lines, or this is the first fault
abbrev pub IsOutcome : ℕ → ℕ → List (List ℕ) → Result (List ℕ) NumbersFault → Type 0
IsOutcome n limit lines (Ok xs) = AreNumbers n limit lines xs
IsOutcome n limit lines (Err f) = IsFirstNumberFault n limit lines f

-- the text stands for these numbers, or this is its first fault, or memory ran out
abbrev pub AreListed : ℕ → ℕ → List ℕ → Result (List ℕ) NumbersError → Type 0
AreListed n limit bytes (Ok xs) = AreNumbers n limit (lines_of bytes) xs
AreListed n limit bytes (Err (error.Fault f)) = IsFirstNumberFault n limit (lines_of bytes) f
AreListed n limit bytes (Err error.Memory) = Unit {0}
