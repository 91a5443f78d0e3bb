-- Lists, as those of a transposed graph, range after range.
use Rattle.std.specs.Prelude.{◌≡◌, ℕ, ◌+◌, ◌-◌, ◌<◌, ◌≤◌, List, length, drop, slice_range}
use Rattle.wg_params.specs.declared.limits.TheConstants.{MOST_ARCS, MOST_PAGES}
use Rattle.wg_graph.specs.Digraph.{Digraph, IsGraph, arc_count}
use Rattle.wg_transpose.specs.Transposed.{predecessors}
use Rattle.wg_transpose.specs.SoFar.{onward, start, AreCounts, ArePrefixes}

-- a graph, and the range of pages whose lists of predecessors are at hand: from the first page up to the one before
-- `to`
pub record Transposing : Type 0 where
  pub graph : Digraph
  pub from : ℕ
  pub to : ℕ

-- how many numbers the lists from this one on have, up to that one
abbrev pub numbers_between : (ℕ → List ℕ) → ℕ → ℕ → ℕ
numbers_between lists from to = start (onward from lists) (to - from)

-- how many arcs lead to the pages from this one on, up to that one
abbrev pub arcs_between : Digraph → ℕ → ℕ → ℕ
arcs_between g from to = numbers_between (predecessors g) from to

-- Of n lists, those of the range from list `from` on, up to the one before `to`, stand one after the other, and their
-- ends are known; of each list behind the range it is known how long it is.
pub record HoldsLists (n : ℕ) (whole : ℕ → List ℕ) (from to : ℕ) (ends all : List ℕ) : Type 0 where
  pub few : start whole n ≤ MOST_ARCS
  pub counted : length ends ≡ n
  pub ordered : from ≤ to
  pub within : to ≤ n
  pub lists : ArePrefixes (to - from) (onward from whole) (onward from whole) (slice_range ends from to) all
  pub counts : AreCounts (n - to) (onward to whole) (drop to ends)

-- the range of lists at hand, from the first up to the one before `to`; where each of them ends, and how long each list
-- behind them is; and their numbers, list after list
pub record Ranging : Type 0 where
  pub from : ℕ
  pub to : ℕ
  pub ends : List ℕ
  pub all : List ℕ

-- these lists are gone through
abbrev pub IsRangeOf : (ℕ → List ℕ) → Ranging → Type 0
IsRangeOf whole r = HoldsLists (length r.ends) whole r.from r.to r.ends r.all

-- these are the lists of the predecessors of each page
pub record HoldsRange (g : Digraph) (r : Ranging) : Type 0 where
  pub proper : IsGraph g
  pub few_pages : g.nodes ≤ MOST_PAGES
  pub few_arcs : arc_count g ≤ MOST_ARCS
  pub pages : length r.ends ≡ g.nodes
  pub held : IsRangeOf (predecessors g) r

-- Ranges of pages that follow one another: range k has the pages from (at k) on, up to (at (k + 1)), and each but the
-- last has at least `room` arcs.
pub record AreRanges (g : Digraph) (room n : ℕ) (at : ℕ → ℕ) : Type 0 where
  pub follow : (k : ℕ) → k < n → at k ≤ at (k + 1)
  pub within : at n ≤ g.nodes
  pub full : (k : ℕ) → k + 1 < n → room ≤ arcs_between g (at k) (at (k + 1))
