-- The graph that an ASCIIGraph text stands for, or its first faulty line.
use Rattle.std.specs.Prelude.{◌≡◌, ℕ, zero, suc, ◌+◌, ◌<◌, ◌≤◌, ◌==◌, nat_le, nat_lt, if◌then◌else◌, List, [], ◌∷◌}
use Rattle.std.specs.Prelude.{length, map, take, get_or, decimal, Option, Some, None, unwrap_or, Result, Ok, Err}
use Rattle.std.specs.List.{sum_by}
use Rattle.wg_params.specs.declared.limits.TheConstants.{MOST_ARCS, MOST_PAGES}
use Rattle.wg_num.specs.Decimal.{number_of}
use Rattle.wg_num.specs.Lines.{lines_of}
use Rattle.wg_num.specs.Words.{words_of}
use Rattle.wg_graph.specs.Digraph.{Digraph, IsGraph, arc_count, successors}
use Rattle.wg_ascii.specs.declared.fault.AsciiKind.{AsciiKind}
use Rattle.wg_ascii.specs.declared.fault.AsciiKind.TheVariants as kind
use Rattle.wg_ascii.specs.declared.fault.AsciiError.{AsciiError}
use Rattle.wg_ascii.specs.declared.fault.AsciiError.TheVariants as error

-- The first line tells the number of pages, the lines after it list the successors of the pages, and those that are
-- left have no words. Each line's words are the decimal texts of its numbers.
pub record StandsFor (lines : List (List ℕ)) (g : Digraph) : Type 0 where
  pub told : words_of (get_or lines 0 []) ≡ decimal g.nodes ∷ []
  pub words : (x : ℕ) → words_of (get_or lines (suc x) []) ≡ map decimal (successors g x)
  pub there : g.nodes < length lines
  pub proper : IsGraph g
  pub few_pages : g.nodes ≤ MOST_PAGES
  pub few_arcs : arc_count g ≤ MOST_ARCS

-- what is wrong with the number of pages
abbrev pub fault_of_pages : Option ℕ → Option AsciiKind
fault_of_pages None = Some kind.Shape
fault_of_pages (Some n) = if nat_lt MOST_PAGES n then Some kind.Range else None

-- what is wrong with the words of the first line
abbrev pub fault_of_first : List (List ℕ) → Option AsciiKind
fault_of_first (word ∷ []) = fault_of_pages (number_of word)
fault_of_first words = Some kind.Shape

-- the number of pages that the words of the first line tell
abbrev pub pages_in : List (List ℕ) → ℕ
pages_in (word ∷ []) = unwrap_or (number_of word) 0
pages_in words = 0

-- why a word that writes this is refused as the next successor of one of n pages, if it is: `least` is one more than
-- the successor before it on the line, or 0, and so many arcs come before it
abbrev pub refusal_of : ℕ → ℕ → ℕ → Option ℕ → Option AsciiKind
refusal_of n least arcs None = Some kind.Shape
refusal_of n least arcs (Some v) =
    if nat_le n v then Some kind.Range
    else if nat_lt v least then Some kind.Order
    else if nat_lt arcs MOST_ARCS then None else Some kind.TooMany

-- the first of two faults
abbrev pub or_else : Option AsciiKind → Option AsciiKind → Option AsciiKind
or_else None second = second
or_else (Some k) second = Some k

-- the fault of the first of a page's words that is refused
abbrev pub fault_of_words : ℕ → ℕ → ℕ → List (List ℕ) → Option AsciiKind
fault_of_words n least arcs [] = None
fault_of_words n least arcs (word ∷ words) =
    or_else (refusal_of n least arcs (number_of word))
    (fault_of_words n (unwrap_or (number_of word) 0 + 1) (arcs + 1) words)

-- how many words stand on these lines
abbrev pub words_in : List (List ℕ) → ℕ
words_in lines = sum_by (λ line. length (words_of line)) lines

-- what is wrong with line x, counted from 0, of those after the first, which tells n pages
abbrev pub fault_after : ℕ → List (List ℕ) → ℕ → Option AsciiKind
fault_after n lines x =
    if nat_le n x then (if length (words_of (get_or lines x [])) == 0 then None else Some kind.Extra)
    else if nat_le (length lines) x then Some kind.Missing
    else fault_of_words n 0 (words_in (take x lines)) (words_of (get_or lines x []))

-- what is wrong with line i, counted from 0, whether it is there or not, if the lines before it are in order
abbrev pub fault_at : List (List ℕ) → ℕ → Option AsciiKind
fault_at [] i = Some kind.Missing
fault_at (first ∷ lines) zero = fault_of_first (words_of first)
fault_at (first ∷ lines) (suc x) = fault_after (pages_in (words_of first)) lines x

-- the first faulty line, counted from 1
pub record IsFirstFault (lines : List (List ℕ)) (line : ℕ) (kind : AsciiKind) : Type 0 where
  pub index : ℕ
  pub counted : line ≡ index + 1
  pub fault : fault_at lines index ≡ Some kind
  pub sound : (i : ℕ) → i < index → fault_at lines i ≡ None

-- the text stands for this graph, or this line is its first faulty one, of this kind
abbrev pub IsDecided : List ℕ → Result Digraph (ℕ × AsciiKind) → Type 0
IsDecided bytes (Ok g) = StandsFor (lines_of bytes) g
IsDecided bytes (Err fault) = IsFirstFault (lines_of bytes) fault.0 fault.1

-- the text stands for this graph, or this line is its first faulty one, of this kind, or memory ran out
abbrev pub IsRead : List ℕ → Result Digraph AsciiError → Type 0
IsRead bytes (Ok g) = StandsFor (lines_of bytes) g
IsRead bytes (Err (error.Line line kind)) = IsFirstFault (lines_of bytes) line kind
IsRead bytes (Err error.Memory) = Unit {0}
