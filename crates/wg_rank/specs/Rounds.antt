-- The bounds of a graph's pages before the first round, and after some.
use Rattle.std.specs.Prelude.{ℕ, ◌≡◌, List, length, map, Option}
use Rattle.std.specs.List.{range_with_len}
use Rattle.wg_graph.specs.Digraph.{Digraph}
use Rattle.wg_rank.specs.Rank.{low, high}
use Rattle.wg_rank.specs.Intervals.{Intervals, AreBoundsOf, by_page}
use Rattle.wg_rank.specs.Weights.{weights_of}

-- f of each page
abbrev pub of_pages : Digraph → (ℕ → ℕ) → List ℕ
of_pages g f = map f (range_with_len 0 g.nodes)

-- the bounds of a graph's pages after so many rounds, with teleport by the weights that are given, or to each page
-- alike
abbrev pub bounds_after : Digraph → Option (List ℕ) → ℕ → ℕ → Intervals
bounds_after g given damping rounds = let w = weights_of g.nodes given in record {
  damping = damping;
  rounds = rounds;
  weights = w;
  low = of_pages g (low g damping (by_page w) rounds);
  high = of_pages g (high g damping (by_page w) rounds);
}

-- bounds of the graph before the first round
pub record AreReady (g : Digraph) (b : Intervals) : Type 0 where
  pub holds : AreBoundsOf b g
  pub before : b.rounds ≡ 0
  pub bounded : length b.low ≡ g.nodes
