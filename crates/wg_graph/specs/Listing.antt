-- Lists of a graph that are read in the order of the pages.
use Rattle.std.specs.Prelude.{◌≡◌, ℕ, ◌+◌, Option, MatchOption}
use Rattle.wg_graph.specs.Digraph.{Digraph}

-- the graph, and the page whose list comes next
pub record Listing : Type 0 where
  pub graph : Digraph
  pub place : ℕ

-- where a reading stands afterwards: one further if a list was lent, else where it stood
abbrev pub PlaceAfter : {X : Type 0} → Option X → ℕ → ℕ → Type 0
PlaceAfter lent before after = MatchOption lent (after ≡ before) (λ _. after ≡ before + 1)
