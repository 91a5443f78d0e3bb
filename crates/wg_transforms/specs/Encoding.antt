-- A graph whose lists are encoded in the order of the pages.
use Rattle.std.specs.Prelude.{◌≡◌, ℕ, ◌<◌, ◌≤◌, List, take}
use Rattle.wg_params.specs.declared.limits.TheConstants.{MOST_ARCS}
use Rattle.wg_graph.specs.Digraph.{Digraph, IsGraph, arc_count, successors}
use Rattle.wg_encoder.specs.ArchiveInMemory.{EncodedSoFar, HasEncoded}

-- the lists of the pages before the next one are encoded, if it is not told how many arcs there are
pub record IsEncoding (g : Digraph) (e : EncodedSoFar) : Type 0 where
  pub nodes : e.params.nodes ≡ g.nodes
  pub most : e.params.arcs ≡ MOST_ARCS
  pub encoded : HasEncoded e (take e.page g.lists)

-- and this is the list of the next page
pub record IsNextList (g : Digraph) (e : EncodedSoFar) (list : List ℕ) : Type 0 where
  pub proper : IsGraph g
  pub few : arc_count g ≤ MOST_ARCS
  pub so_far : IsEncoding g e
  pub page : e.page < g.nodes
  pub is : list ≡ successors g e.page
