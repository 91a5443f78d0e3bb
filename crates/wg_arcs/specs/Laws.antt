-- What holds of all texts of graphs and of numbers.
use Rattle.std.specs.Prelude.{◌≡◌, ◌≤◌, ◌<◌, ◌^◌, ◌↔◌, ℕ, List, length, Result, Ok, Err}
use Rattle.std.specs.List.{All}
use Rattle.wg_params.specs.declared.limits.TheConstants.{MOST_ARCS, MOST_PAGES}
use Rattle.wg_num.specs.Lines.{lines_of}
use Rattle.wg_graph.specs.Digraph.{Digraph, IsGraph, arc_count}
use Rattle.wg_arcs.specs.Text.{text_of_graph}
use Rattle.wg_arcs.specs.declared.fault.ArcsKind.{ArcsKind}
use Rattle.wg_arcs.specs.Reading.{AreArcs, IsFirstFault, IsListed}
use Rattle.wg_arcs.specs.Numbers.{numbers_of}
use Rattle.wg_arcs.specs.NumberTexts.{text_of_numbers, AreNumbers, IsFirstNumberFault, IsOutcome}
use Rattle.wg_arcs.specs.declared.numbers_fault.NumbersFault.{NumbersFault}

-- The text of a graph within the limits of an archive stands for this graph.
abbrev pub TextsReadBack : Type 0
TextsReadBack = (g : Digraph) → IsGraph g → g.nodes ≤ MOST_PAGES → arc_count g ≤ MOST_ARCS
    → AreArcs g.nodes (lines_of (text_of_graph g)) g

-- A text stands for at most one graph, or has at most one first fault, and never both.
pub record TextsAreOne : Type 0 where
  pub graph : (n : ℕ) (lines : List (List ℕ)) (g h : Digraph) → AreArcs n lines g → AreArcs n lines h → g ≡ h
  pub never_both : (n : ℕ) (lines : List (List ℕ)) (g : Digraph) (line : ℕ) (kind : ArcsKind) → AreArcs n lines g
      → IsFirstFault n lines line kind → ⊥
  pub fault : (n : ℕ) (lines : List (List ℕ)) (line line1 : ℕ) (kind kind1 : ArcsKind)
      → IsFirstFault n lines line kind → IsFirstFault n lines line1 kind1 → (line ≡ line1) × (kind ≡ kind1)

-- A text stands for a graph or has a first fault.
abbrev pub TextsAreSome : Type 0
TextsAreSome = (n : ℕ) (bytes : List ℕ) → (w : Result Digraph (ℕ × ArcsKind)) × IsListed n bytes w

-- A text gives these numbers exactly if no line is faulty and they are those of the lines, as many as are wanted.
abbrev pub NumbersAreThose : Type 0
NumbersAreThose = (n limit : ℕ) (bytes xs : List ℕ)
    → (numbers_of n limit bytes ≡ Ok xs) ↔ AreNumbers n limit (lines_of bytes) xs

-- It gives this fault exactly if this is its first one.
abbrev pub FaultsAreFirst : Type 0
FaultsAreFirst =
    (n limit : ℕ) (bytes : List ℕ) (f : NumbersFault)
    → (numbers_of n limit bytes ≡ Err f) ↔ IsFirstNumberFault n limit (lines_of bytes) f

-- Some lines have numbers or a first fault, and not two of these.
pub record OutcomesAreOne : Type 0 where
  pub some : (n limit : ℕ) (lines : List (List ℕ)) → (w : Result (List ℕ) NumbersFault) × IsOutcome n limit lines w
  pub one : (n limit : ℕ) (lines : List (List ℕ)) (w x : Result (List ℕ) NumbersFault) → IsOutcome n limit lines w
      → IsOutcome n limit lines x → w ≡ x

-- The text of numbers below a limit stands for these numbers.
abbrev pub NumbersReadBack : Type 0
NumbersReadBack =
    (limit : ℕ) (xs : List ℕ) → limit ≤ 2 ^ 64 → All (λ v. v < limit) xs
    → AreNumbers (length xs) limit (lines_of (text_of_numbers xs)) xs
