-- Which arcs have been counted or placed so far.
use Rattle.std.specs.Prelude.{◌≡◌, ◌≢◌, ℕ, zero, suc, ◌+◌, ◌<◌, List, [], ◌∷◌, ◌++◌, length, get_or}
use Rattle.wg_graph.specs.Numbers.{numbers_where}
use Rattle.wg_graph.specs.Digraph.{Digraph, IsGraph, successors}
use Rattle.wg_graph.specs.Arcs.{has_arc}
use Rattle.wg_transpose.specs.Transposed.{predecessors}

-- the pages below page k with an arc to page v, ascending
abbrev pub predecessors_below : Digraph → ℕ → ℕ → List ℕ
predecessors_below g k v = numbers_where (λ u. has_arc g u v) 0 k

-- the lists from this one on
abbrev pub onward : ℕ → (ℕ → List ℕ) → ℕ → List ℕ
onward first lists v = lists (first + v)

-- the sum of the lengths of the lists below list v
abbrev pub start : {X : Type 0} → (ℕ → List X) → ℕ → ℕ
start lists zero = 0
start lists (suc v) = start lists v + length (lists v)

-- these are the lengths of the first n lists
pub record AreCounts {X : Type 0} (n : ℕ) (lists : ℕ → List X) (counts : List ℕ) : Type 0 where
  pub pages : length counts ≡ n
  pub each : (v : ℕ) → v < n → get_or counts v 0 ≡ length (lists v)

-- the list that was read is that of page k
pub record IsListOf (g : Digraph) (k : ℕ) (list : List ℕ) : Type 0 where
  pub proper : IsGraph g
  pub page : k < g.nodes
  pub is : list ≡ successors g k

-- one list grows by one number, and the others stay
pub record OneMore {X : Type 0} (b c : ℕ → List X) (v : ℕ) (x : X) : Type 0 where
  pub here : c v ≡ b v ++ x ∷ []
  pub others : (w : ℕ) → w ≢ v → c w ≡ b w

-- These are prefixes of the first n of the whole lists: each stands from the start of its whole list on, and its end is
-- known. `none` is in place of what is not written yet.
pub record AreFilled {X : Type 0} (none : X) (n : ℕ) (whole lists : ℕ → List X) (ends : List ℕ) (all : List X) : Type 0 where
  pub pages : length ends ≡ n
  pub room : length all ≡ start whole n
  pub reached : (v : ℕ) → v < n → get_or ends v 0 ≡ start whole v + length (lists v)
  pub members : (v : ℕ) → v < n → (i : ℕ) → i < length (lists v)
      → get_or all (start whole v + i) none ≡ get_or (lists v) i none

-- these are prefixes of the first n of the whole lists, which are lists of numbers
abbrev pub ArePrefixes : ℕ → (ℕ → List ℕ) → (ℕ → List ℕ) → List ℕ → List ℕ → Type 0
ArePrefixes n whole lists ends all = AreFilled 0 n whole lists ends all

-- these are prefixes of the lists of predecessors
abbrev pub ArePlaced : Digraph → (ℕ → List ℕ) → List ℕ → List ℕ → Type 0
ArePlaced g lists ends all = ArePrefixes g.nodes (predecessors g) lists ends all

-- these are prefixes of the lists of predecessors of n pages, from page `first` on
abbrev pub ArePlacedFrom : Digraph → ℕ → ℕ → (ℕ → List ℕ) → List ℕ → List ℕ → Type 0
ArePlacedFrom g first n lists ends all = ArePrefixes n (onward first (predecessors g)) (onward first lists) ends all
