-- What holds of all transposed graphs, and of the runs of ascending lists.
use Rattle.std.specs.Prelude.{◌≡◌, ℕ, ◌+◌, ◌*◌, ◌≤◌, List}
use Rattle.wg_graph.specs.Ascending.{Ascends}
use Rattle.wg_graph.specs.Digraph.{Digraph, IsGraph, arc_count}
use Rattle.wg_graph.specs.Arcs.{has_arc}
use Rattle.wg_transpose.specs.Transposed.{transposed}
use Rattle.wg_transpose.specs.Transposing.{AreRanges}
use Rattle.wg_transpose.specs.declared.run.PageRun.{PageRun}
use Rattle.wg_transpose.specs.Runs.{numbers_of_all, StandApart, runs_in}

-- An arc leads from v to u exactly if it led from u to v.
abbrev pub ArcsAreReversed : Type 0
ArcsAreReversed = (g : Digraph) → IsGraph g → (u v : ℕ) → has_arc (transposed g) v u ≡ has_arc g u v

-- Each page has one list, which ascends and has pages alone.
abbrev pub TransposedIsProper : Type 0
TransposedIsProper = (g : Digraph) → IsGraph (transposed g)

-- There are as many arcs.
abbrev pub ArcsAreAsMany : Type 0
ArcsAreAsMany = (g : Digraph) → IsGraph g → arc_count (transposed g) ≡ arc_count g

-- Transposed twice is the graph.
abbrev pub TwiceGivesBack : Type 0
TwiceGivesBack = (g : Digraph) → IsGraph g → transposed (transposed g) ≡ g

-- No other graph of as many pages has the arcs reversed.
abbrev pub ReversedIsOne : Type 0
ReversedIsOne = (g t : Digraph) → IsGraph g → IsGraph t → t.nodes ≡ g.nodes
    → ((u v : ℕ) → has_arc t v u ≡ has_arc g u v) → t ≡ transposed g

-- There are no more ranges before the last than `room` goes into the number of arcs.
abbrev pub RangesAreFew : Type 0
RangesAreFew = (g : Digraph) → IsGraph g → (room n : ℕ) (at : ℕ → ℕ) → AreRanges g room (n + 1) at
    → room * n ≤ arc_count g

-- The numbers of the runs, one run after the other, are the list.
abbrev pub NumbersAreTheList : Type 0
NumbersAreTheList = (xs : List ℕ) → Ascends 0 xs → numbers_of_all (runs_in xs) ≡ xs

-- Between two runs a number is left out, so none could be longer.
abbrev pub RunsStandApart : Type 0
RunsStandApart = (xs : List ℕ) → Ascends 0 xs → StandApart 0 (runs_in xs)

-- No other runs that stand apart have these numbers.
abbrev pub RunsAreOne : Type 0
RunsAreOne = (rs : List PageRun) → StandApart 0 rs → rs ≡ runs_in (numbers_of_all rs)
