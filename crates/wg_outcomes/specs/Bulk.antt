-- What comes of a generated graph.
use Rattle.std.specs.Prelude.{◌≡◌, ℕ, ◌+◌, ◌<◌, ◌≤◌, List, ◌++◌, length, slice_get, codes, decimal, Option, Some, None, IsTrue}
use Rattle.wg_outside.specs.Outside.{Files}
use Rattle.wg_params.specs.Parameters.{Parameters, IsWithinLimits}
use Rattle.wg_graph.specs.Digraph.{Digraph, IsGraph, arc_count}
use Rattle.wg_greedy.specs.Archive.{graph_bits, referring_pages}
use Rattle.wg_rank.specs.Certified.{numerator_of}
use Rattle.wg_rank.specs.Intervals.{Intervals, by_page}
use Rattle.wg_rank.specs.Rank.{total, IsStationary}
use Rattle.wg_order.specs.Order.{Positions, best}
use Rattle.wg_order.specs.Summary.{is_sure, sure_pages}
use Rattle.wg_order.specs.Surely.{count_greater, count_smaller}
use Rattle.wg_vectors.specs.Generated.{generated}
use Rattle.wg_words.specs.Layouts.{default_layout}
use Rattle.wg_words.specs.declared.defaults.TheConstants.{DEFAULT_DAMPING}
use Rattle.wg_outcomes.specs.Readings.{Readings}
use Rattle.wg_rank.specs.Rounds.{bounds_after}
use Rattle.wg_outcomes.specs.Ranked.{IsProvenRanking, positions_of}
use Rattle.wg_outcomes.specs.Written.{AreWhole, archive_in, greedy_archive, params_for}
use Rattle.wg_outcomes.specs.declared.outcome.Outcome.{Outcome}
use Rattle.wg_outcomes.specs.declared.outcome.TheConstants.{BULK_ROUNDS}

-- the parameters of its archive, which is written as if no option were given
abbrev pub bulk_params : Digraph → Parameters
bulk_params g = params_for default_layout g

-- the bounds of its pages, and their ranking
abbrev pub bulk_bounds : Digraph → Intervals
bulk_bounds g = bounds_after g None DEFAULT_DAMPING BULK_ROUNDS

abbrev pub bulk_positions : Readings → Digraph → Positions
bulk_positions r g = positions_of r (bulk_bounds g)

-- what its archive and the ranking of its pages come to
abbrev pub outcome_of : Readings → Digraph → Outcome
outcome_of r g = record {
  pages = g.nodes;
  arcs = arc_count g;
  bits = length (graph_bits (bulk_params g) g.lists);
  referring = referring_pages (bulk_params g) g.lists;
  first = slice_get (bulk_positions r g).pages 0;
  sure = sure_pages (bulk_positions r g);
}

abbrev pub page_or_dash : Option ℕ → List ℕ
page_or_dash None = codes "-"
page_or_dash (Some v) = decimal v

-- the six lines
abbrev pub outcome_text : Outcome → List ℕ
outcome_text o =
    codes "nodes " ++ decimal o.pages ++ codes "\narcs " ++ decimal o.arcs ++ codes "\nbits " ++ decimal o.bits ++ codes "\nreferring " ++ decimal o.referring
    ++ codes "\nfirst " ++ page_or_dash o.first ++ codes "\nsure " ++ decimal o.sure ++ codes "\n"

-- the archive of a graph within the limits is whole in these files
pub record IsBuilt (g : Digraph) (base : List ℕ) (files : Files) : Type 0 where
  pub proper : IsGraph g
  pub limits : IsWithinLimits (bulk_params g)
  pub whole : AreWhole (greedy_archive (bulk_params g) g) (archive_in base files)

-- Page v has this position by shares p, over one denominator, and shares it with no page: so many pages and it have no
-- smaller share, and all others have one.
pub record HasPosition (g : Digraph) (p : ℕ → ℕ) (v position : ℕ) : Type 0 where
  pub greater : count_greater g p v + 1 ≡ position
  pub smaller : position + count_smaller g p v ≡ g.nodes

-- each page that these positions count as sure has its position by these shares
abbrev pub HavePositions : Digraph → Positions → (ℕ → ℕ) → Type 0
HavePositions g s p = (v : ℕ) → v < g.nodes → IsTrue (is_sure s v) → HasPosition g p v (best s v)

-- What is printed is what comes of the generated graph; its ranking is proven, and each page that is counted as sure
-- has its position in every iterate from the last round on, and by every stationary vector.
pub record PrintsProvenOutcome (r : Readings) (seed pages : ℕ) (old new : List ℕ) : Type 0 where
  pub graph : Digraph
  pub graph_is : graph ≡ generated seed pages
  pub proper : IsGraph graph
  pub printed : new ≡ old ++ outcome_text (outcome_of r graph)
  pub proven : IsProvenRanking r (bulk_bounds graph) graph
  pub sure : (j : ℕ) → BULK_ROUNDS ≤ j
      → HavePositions graph (bulk_positions r graph) (numerator_of (bulk_bounds graph) graph j)
  pub settled : (p : ℕ → ℕ) (d : ℕ) → 0 < d → total graph p ≡ d
      → IsStationary graph DEFAULT_DAMPING (by_page (bulk_bounds graph).weights) p d
      → HavePositions graph (bulk_positions r graph) p
