-- What holds of all generated graphs.
use Rattle.std.specs.Prelude.{ℕ, ◌≤◌, All, length}
use Rattle.wg_graph.specs.Digraph.{IsGraph}
use Rattle.wg_vectors.specs.Generated.{generated}

-- Each page has one list, which ascends and has pages alone.
abbrev pub GeneratedIsProper : Type 0
GeneratedIsProper = (seed n : ℕ) → IsGraph (generated seed n)

-- No page has more than 78 successors.
abbrev pub GeneratedIsSparse : Type 0
GeneratedIsSparse = (seed n : ℕ) → All (λ list. length list ≤ 78) (generated seed n).lists
