-- The graph that a text of arcs stands for, or its first faulty line.
use Rattle.std.specs.Prelude.{◌≡◌, ℕ, ◌+◌, ◌<◌, Bool, true, not, ◌&&◌, ◌||◌, ◌==◌, nat_lt, nat_le, if◌then◌else◌}
use Rattle.std.specs.Prelude.{List, [], ◌∷◌, length, take, get_or, slice_index, Option, Some, None, Result}
use Rattle.std.specs.Prelude.{Ok, Err}
use Rattle.std.specs.List.{filter_map, last_or}
use Rattle.wg_params.specs.declared.limits.TheConstants.{MOST_ARCS}
use Rattle.wg_num.specs.Decimal.{number_of}
use Rattle.wg_num.specs.Lines.{lines_of}
use Rattle.wg_num.specs.Words.{words_of}
use Rattle.wg_graph.specs.Digraph.{Digraph, IsGraph}
use Rattle.wg_graph.specs.Arcs.{arcs_of}
use Rattle.wg_arcs.specs.declared.fault.ArcsKind.{ArcsKind}
use Rattle.wg_arcs.specs.declared.fault.ArcsKind.TheVariants as kind
use Rattle.wg_arcs.specs.declared.fault.ArcsError.{ArcsError}
use Rattle.wg_arcs.specs.declared.fault.ArcsError.TheVariants as error

-- a line without words, or a comment, whose first word begins with `#` (35)
abbrev pub is_skipped : List (List ℕ) → Bool
is_skipped [] = true
is_skipped (word ∷ words) = slice_index word 0 == 35

-- two numbers, if both are there
abbrev pub both : Option ℕ → Option ℕ → Option (ℕ × ℕ)
both (Some u) (Some v) = Some (u, v)
both a b = None

-- the arc that a line's words write: two decimal numbers, and nothing else
abbrev pub arc_in : List (List ℕ) → Option (ℕ × ℕ)
arc_in (u ∷ v ∷ []) = both (number_of u) (number_of v)
arc_in words = None

-- the arc of a line that is not skipped
abbrev pub arc_at : List ℕ → Option (ℕ × ℕ)
arc_at line = if is_skipped (words_of line) then None else arc_in (words_of line)

-- the arcs of some lines
abbrev pub arcs_in : List (List ℕ) → List (ℕ × ℕ)
arcs_in lines = filter_map arc_at lines

-- by the first number, and then by the second
abbrev pub is_before : ℕ × ℕ → ℕ × ℕ → Bool
is_before a b = nat_lt a.0 b.0 || (a.0 == b.0 && nat_lt a.1 b.1)

-- whether the arc comes after the one before it, if there is one
abbrev pub is_after : Option (ℕ × ℕ) → ℕ × ℕ → Bool
is_after None b = true
is_after (Some a) b = is_before a b

-- why an arc is refused after so many, of which this is the last one, if it is
abbrev pub refusal_after : ℕ → Option (ℕ × ℕ) → ℕ → Option (ℕ × ℕ) → Option ArcsKind
refusal_after n last count None = Some kind.Shape
refusal_after n last count (Some arc) =
    if nat_le n arc.0 || nat_le n arc.1 then Some kind.Range else if not (is_after last arc) then Some kind.Order
    else if nat_lt count MOST_ARCS then None else Some kind.TooMany

-- what is wrong with a line after so many arcs, of which this is the last one, if n pages are given
abbrev pub fault_after : ℕ → Option (ℕ × ℕ) → ℕ → List ℕ → Option ArcsKind
fault_after n last count line = if is_skipped (words_of line) then None
    else refusal_after n last count (arc_in (words_of line))

-- what is wrong with a line after these arcs
abbrev pub fault_of : ℕ → List (ℕ × ℕ) → List ℕ → Option ArcsKind
fault_of n before line = fault_after n (last_or None before) (length before) line

-- the fault of line number i, counted from 0
abbrev pub fault_at : ℕ → List (List ℕ) → ℕ → Option ArcsKind
fault_at n lines i = fault_of n (arcs_in (take i lines)) (get_or lines i [])

-- no line is faulty, and these are the arcs
pub record AreArcs (n : ℕ) (lines : List (List ℕ)) (g : Digraph) : Type 0 where
  pub sound : (i : ℕ) → i < length lines → fault_at n lines i ≡ None
  pub nodes : g.nodes ≡ n
  pub proper : IsGraph g
  pub arcs : arcs_of g ≡ arcs_in lines

-- the first faulty line, counted from 1
pub record IsFirstFault (n : ℕ) (lines : List (List ℕ)) (line : ℕ) (kind : ArcsKind) : Type 0 where
  pub index : ℕ
  pub counted : line ≡ index + 1
  pub there : index < length lines
  pub fault : fault_at n lines index ≡ Some kind
  pub sound : (i : ℕ) → i < index → fault_at n lines i ≡ None

-- the text stands for this graph of n pages, or this is its first fault, or memory ran out
abbrev pub IsRead : ℕ → List ℕ → Result Digraph ArcsError → Type 0
IsRead n bytes (Ok g) = AreArcs n (lines_of bytes) g
IsRead n bytes (Err (error.Line line kind)) = IsFirstFault n (lines_of bytes) line kind
IsRead n bytes (Err error.Memory) = Unit {0}

-- the text stands for this graph of n pages, or this line is its first faulty one, of this kind
abbrev pub IsListed : ℕ → List ℕ → Result Digraph (ℕ × ArcsKind) → Type 0
IsListed n bytes (Ok g) = AreArcs n (lines_of bytes) g
IsListed n bytes (Err fault) = IsFirstFault n (lines_of bytes) fault.0 fault.1
