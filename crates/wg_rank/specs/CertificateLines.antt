-- The claim that the lines of a text stand for, or their first fault.
use Rattle.std.specs.Prelude.{◌≡◌, ℕ, ◌+◌, ◌<◌, ◌≤◌, ◌==◌, nat_lt, if◌then◌else◌, List, [], length, drop, get_or, codes, Option, Some, None, Result, Ok, Err}
use Rattle.std.specs.List.{filter_map}
use Rattle.wg_num.specs.Lines.{lines_of}
use Rattle.wg_num.specs.Units.{units_of}
use Rattle.wg_params.specs.declared.limits.TheConstants.{MOST_DAMPING}
use Rattle.wg_rank.specs.Sum.{sum_below}
use Rattle.wg_rank.specs.Intervals.{by_page}
use Rattle.wg_rank.specs.Claims.{Claim}
use Rattle.wg_rank.specs.CertificateText.{number_after, at_most}
use Rattle.wg_rank.specs.declared.limits.TheConstants.{UNITS}
use Rattle.wg_rank.specs.declared.fault.CertError.{CertError}
use Rattle.wg_rank.specs.declared.fault.CertError.TheVariants as error
use Rattle.wg_rank.specs.declared.fault.CertKind.{CertKind}
use Rattle.wg_rank.specs.declared.fault.CertKind.TheVariants as kind
use Rattle.wg_rank.specs.declared.fault.CertFault.{CertFault}
use Rattle.wg_rank.specs.declared.fault.CertFault.TheVariants as fault

-- the damping and the number of pages that a line writes, if it does
abbrev pub damping_on : List ℕ → Option ℕ
damping_on line = at_most MOST_DAMPING (number_after (codes "damping ") line)

abbrev pub pages_on : List ℕ → Option ℕ
pages_on line = number_after (codes "pages ") line

-- why a line is refused that has to write a value
abbrev pub unless_written : Option ℕ → Option CertKind
unless_written None = Some kind.Shape
unless_written (Some x) = None

-- why a line is refused that has to write the number n
abbrev pub unless_same : ℕ → Option ℕ → Option CertKind
unless_same n None = Some kind.Shape
unless_same n (Some m) = if m == n then None else Some kind.Pages

-- what is wrong with line number i, counted from 0: the first has the damping, the second the pages, and n more a bound
abbrev pub refusal_of_line : ℕ → ℕ → List ℕ → Option CertKind
refusal_of_line n i line =
    if i == 0 then unless_written (damping_on line)
    else if i == 1 then unless_same n (pages_on line)
    else if nat_lt i (n + 2) then unless_written (units_of line) else Some kind.Extra

-- the fault of line number i, counted from 0, which may be that it is not there
abbrev pub fault_at : ℕ → List (List ℕ) → ℕ → Option CertKind
fault_at n lines i =
    if nat_lt i (length lines) then refusal_of_line n i (get_or lines i [])
    else if nat_lt i (n + 2) then Some kind.Missing else None

-- the bounds of the lines from the third on
abbrev pub bounds_on : List (List ℕ) → List ℕ
bounds_on lines = filter_map units_of (drop 2 lines)

-- no line is faulty, the damping and the bounds are theirs, and the bounds add up to at most 1
pub record IsClaimed (n : ℕ) (lines : List (List ℕ)) (c : Claim) : Type 0 where
  pub sound : (i : ℕ) → fault_at n lines i ≡ None
  pub damping : damping_on (get_or lines 0 []) ≡ Some c.damping
  pub bounds : c.low ≡ bounds_on lines
  pub pages : length c.low ≡ n
  pub within : sum_below (length c.low) (by_page c.low) ≤ UNITS

-- the first faulty line, counted from 1
pub record IsFirstFaultyLine (n : ℕ) (lines : List (List ℕ)) (line : ℕ) (kind : CertKind) : Type 0 where
  pub index : ℕ
  pub counted : line ≡ index + 1
  pub fault : fault_at n lines index ≡ Some kind
  pub sound : (i : ℕ) → i < index → fault_at n lines i ≡ None

-- no line is faulty, and the bounds add up to more than 1
pub record ArePastOne (n : ℕ) (lines : List (List ℕ)) : Type 0 where
  pub sound : (i : ℕ) → fault_at n lines i ≡ None
  pub past : UNITS < sum_below (length (bounds_on lines)) (by_page (bounds_on lines))

-- the first fault: a faulty line, or, if none is, a sum of more than 1; reading finds no bound that falls
abbrev pub IsFirstFault : ℕ → List (List ℕ) → CertFault → Type 0
IsFirstFault n lines (fault.Line line kind) = IsFirstFaultyLine n lines line kind
IsFirstFault n lines fault.Sum = ArePastOne n lines
IsFirstFault n lines (fault.Falls page) = ⊥

-- the lines claim this, or this is their first fault
abbrev pub IsOutcome : ℕ → List (List ℕ) → Result Claim CertFault → Type 0
IsOutcome n lines (Ok c) = IsClaimed n lines c
IsOutcome n lines (Err f) = IsFirstFault n lines f

-- the text stands for this claim, or this is its first fault, or memory ran out
abbrev pub StandsFor : ℕ → List ℕ → Result Claim CertError → Type 0
StandsFor n bytes (Ok c) = IsClaimed n (lines_of bytes) c
StandsFor n bytes (Err (error.Fault f)) = IsFirstFault n (lines_of bytes) f
StandsFor n bytes (Err error.Memory) = Unit {0}
