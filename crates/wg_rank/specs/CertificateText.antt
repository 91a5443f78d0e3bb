-- The text of a certificate, and the claim that a text stands for.
use Rattle.std.specs.Prelude.{ℕ, ◌≡◌, Vec, zero, suc, ◌+◌, ◌==◌, nat_eq, nat_le, if◌then◌else◌, List, [], ◌∷◌, ◌++◌, length, drop, map, codes, decimal, Option, Some, None, Result, Ok, Err}
use Rattle.std.specs.Global.{Global}
use Rattle.std.specs.List.{starts_with}
use Rattle.wg_outside.specs.Puts.{joined}
use Rattle.wg_num.specs.Decimal.{number_of}
use Rattle.wg_num.specs.Lines.{lines_of}
use Rattle.wg_num.specs.Units.{text_of_units, units_of}
use Rattle.wg_params.specs.declared.limits.TheConstants.{MOST_DAMPING}
use Rattle.wg_rank.specs.Sum.{sum_below}
use Rattle.wg_rank.specs.Intervals.{by_page}
use Rattle.wg_rank.specs.Claims.{Claim}
use Rattle.wg_rank.specs.declared.limits.TheConstants.{UNITS}
use Rattle.wg_rank.specs.declared.fault.CertError.{CertError}
use Rattle.wg_rank.specs.declared.fault.CertError.TheVariants as error
use Rattle.wg_rank.specs.declared.fault.CertKind.{CertKind}
use Rattle.wg_rank.specs.declared.fault.CertKind.TheVariants as kind
use Rattle.wg_rank.specs.declared.fault.CertFault.{CertFault}
use Rattle.wg_rank.specs.declared.fault.CertFault.TheVariants as fault

-- ---- as it is written

-- a word and a number
abbrev pub named_line : List ℕ → ℕ → List ℕ
named_line word number = word ++ decimal number ++ codes "\n"

abbrev pub bound_line : ℕ → List ℕ
bound_line x = text_of_units x ++ codes "\n"

abbrev pub bound_lines : List ℕ → List ℕ
bound_lines low = joined (map bound_line low)

-- the damping, the number of pages, and the bound of each page
abbrev pub text_of_claim : Claim → List ℕ
text_of_claim c =
    named_line (codes "damping ") c.damping ++ named_line (codes "pages ") (length c.low) ++ bound_lines c.low

-- ---- as it is read

-- the number after a word, if a line is both and nothing else
abbrev pub number_after : List ℕ → List ℕ → Option ℕ
number_after word line = if starts_with nat_eq line word then number_of (drop (length word) line) else None

-- a value, or what is wrong with the line of this number, counted from 1
abbrev pub or_fault : {A : Type 0} → ℕ → CertKind → Option A → Result A CertFault
or_fault line k None = Err (fault.Line line k)
or_fault line k (Some x) = Ok x

abbrev pub and_then : {A B : Type 0} → Result A CertFault → (A → Result B CertFault) → Result B CertFault
and_then (Ok x) next = next x
and_then (Err e) next = Err e

-- a number of no more than this
abbrev pub at_most : ℕ → Option ℕ → Option ℕ
at_most most None = None
at_most most (Some x) = if nat_le x most then Some x else None

-- the first line, if it is there, gives the damping
abbrev pub damping_of : List (List ℕ) → Result ℕ CertFault
damping_of [] = Err (fault.Line 1 kind.Missing)
damping_of (line ∷ lines) = or_fault 1 kind.Shape (at_most MOST_DAMPING (number_after (codes "damping ") line))

-- these are the pages, or others than those of the graph
abbrev pub as_many : ℕ → ℕ → Result (Unit {0}) CertFault
as_many n m = if m == n then Ok tt else Err (fault.Line 2 kind.Pages)

-- the second line gives the number of pages, which must be n
abbrev pub pages_of : ℕ → List (List ℕ) → Result (Unit {0}) CertFault
pages_of n [] = Err (fault.Line 2 kind.Missing)
pages_of n (line ∷ lines) = and_then (or_fault 2 kind.Shape (number_after (codes "pages ") line)) (as_many n)

-- a bound, and those after it
abbrev pub before : ℕ → Result (List ℕ) CertFault → Result (List ℕ) CertFault
before x rest = and_then rest (λ xs. Ok (x ∷ xs))

-- the lines from this number on give the bounds of n pages, one each, and there are no more
abbrev pub bounds_of : ℕ → ℕ → List (List ℕ) → Result (List ℕ) CertFault
bounds_of number zero [] = Ok []
bounds_of number zero (line ∷ lines) = Err (fault.Line number kind.Extra)
bounds_of number (suc n) [] = Err (fault.Line number kind.Missing)
bounds_of number (suc n) (line ∷ lines) =
    and_then (or_fault number kind.Shape (units_of line)) (λ x. before x (bounds_of (number + 1) n lines))

-- bounds that add up to at most 1
abbrev pub claimed : ℕ → List ℕ → Result Claim CertFault
claimed a low =
    if nat_le (sum_below (length low) (by_page low)) UNITS then Ok (record { damping = a; low = low })
    else Err fault.Sum

-- what some lines claim of n pages, or the first fault
abbrev pub claim_in : ℕ → List (List ℕ) → Result Claim CertFault
claim_in n lines =
    and_then (damping_of lines) (λ a.
    and_then (pages_of n (drop 1 lines)) (λ _.
    and_then (bounds_of 3 n (drop 2 lines)) (λ low. claimed a low)))

-- what a text claims of n pages, or its first fault
unfoldable pub claim_of : ℕ → List ℕ → Result Claim CertFault
claim_of n bytes = claim_in n (lines_of bytes)

-- a text gives this, or it has this first fault, or memory ran out
abbrev pub IsRead : {A : Type 0} → Result A CertFault → Result A CertError → Type 0
IsRead told (Ok x) = told ≡ Ok x
IsRead told (Err (error.Fault f)) = told ≡ Err f
IsRead told (Err error.Memory) = Unit {0}

-- a text gives these bounds, in a vector, or it has this first fault, or memory ran out
abbrev pub AreRead : Result (List ℕ) CertFault → Result (Vec ℕ Global) CertError → Type 0
AreRead told (Ok x) = told ≡ Ok x.items
AreRead told (Err (error.Fault f)) = told ≡ Err f
AreRead told (Err error.Memory) = Unit {0}
