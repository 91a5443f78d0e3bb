-- Lists that stand one after the other in one list, cut at their ends.
use Rattle.std.specs.Prelude.{◌≡◌, ℕ, ◌≤◌, List, [], ◌∷◌, length, slice_range}
use Rattle.wg_graph.specs.Digraph.{Digraph, IsGraphPrefix}

-- the lists from start on, each of which ends where the next begins
abbrev pub pieces : ℕ → List ℕ → List ℕ → List (List ℕ)
pieces start [] all = []
pieces start (end ∷ ends) all = slice_range all start end ∷ pieces end ends all

-- no end is before the one before it, and the last one is total
abbrev pub EndsAt : ℕ → List ℕ → ℕ → Type 0
EndsAt start [] total = start ≡ total
EndsAt start (end ∷ ends) total = (start ≤ end) × EndsAt end ends total

-- the graph, or a prefix of it, whose lists are cut at these ends
abbrev pub cut : ℕ → List ℕ → List ℕ → Digraph
cut nodes ends all = record { nodes = nodes; lists = pieces 0 ends all }

-- it is one, and nothing is left over
pub record IsCut (nodes : ℕ) (ends all : List ℕ) : Type 0 where
  pub whole : EndsAt 0 ends (length all)
  pub prefix : IsGraphPrefix (cut nodes ends all)
