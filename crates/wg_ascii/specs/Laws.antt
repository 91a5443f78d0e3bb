-- What holds of all ASCIIGraph texts.
use Rattle.std.specs.Prelude.{◌≡◌, ◌≤◌, ℕ, List, [], get_or, Result}
use Rattle.wg_params.specs.declared.limits.TheConstants.{MOST_ARCS, MOST_PAGES}
use Rattle.wg_num.specs.Lines.{lines_of}
use Rattle.wg_num.specs.Words.{words_of}
use Rattle.wg_graph.specs.Digraph.{Digraph, IsGraph, arc_count}
use Rattle.wg_ascii.specs.Text.{text_of_graph}
use Rattle.wg_ascii.specs.Reading.{StandsFor, IsFirstFault, IsDecided}
use Rattle.wg_ascii.specs.declared.fault.AsciiKind.{AsciiKind}

-- The text of a graph within the limits of an archive stands for this graph.
abbrev pub TextsReadBack : Type 0
TextsReadBack =
    (g : Digraph) → IsGraph g → g.nodes ≤ MOST_PAGES → arc_count g ≤ MOST_ARCS
    → StandsFor (lines_of (text_of_graph g)) g

-- each line has the words of the line of the same number; a line that is not there has none
abbrev pub HaveSameWords : List (List ℕ) → List (List ℕ) → Type 0
HaveSameWords lines others = (i : ℕ) → words_of (get_or lines i []) ≡ words_of (get_or others i [])

-- Texts of the same words are spellings of one text, which their graphs are written as, and that of no other text.
pub record SpellingsAgree : Type 0 where
  pub same : (a b : List ℕ) (g h : Digraph) → StandsFor (lines_of a) g → StandsFor (lines_of b) h
      → HaveSameWords (lines_of a) (lines_of b) → text_of_graph g ≡ text_of_graph h
  pub alone : (a b : List ℕ) (g h : Digraph) → StandsFor (lines_of a) g → StandsFor (lines_of b) h
      → text_of_graph g ≡ text_of_graph h → HaveSameWords (lines_of a) (lines_of b)

-- A text stands for at most one graph, or has at most one first fault, and never both.
pub record TextsAreOne : Type 0 where
  pub graph : (lines : List (List ℕ)) (g h : Digraph) → StandsFor lines g → StandsFor lines h → g ≡ h
  pub never_both : (lines : List (List ℕ)) (g : Digraph) (line : ℕ) (kind : AsciiKind)
      → StandsFor lines g → IsFirstFault lines line kind → ⊥
  pub fault : (lines : List (List ℕ)) (line line1 : ℕ) (kind kind1 : AsciiKind)
      → IsFirstFault lines line kind → IsFirstFault lines line1 kind1 → (line ≡ line1) × (kind ≡ kind1)

-- A text stands for a graph or has a first fault.
abbrev pub TextsAreSome : Type 0
TextsAreSome = (bytes : List ℕ) → (w : Result Digraph (ℕ × AsciiKind)) × IsDecided bytes w
