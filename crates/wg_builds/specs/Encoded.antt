-- The graph of a text that was read, in records.
use Rattle.std.specs.Prelude.{◌≡◌, ℕ, Result, Ok}
use Rattle.wg_params.specs.Parameters.{Parameters}
use Rattle.wg_params.specs.declared.layout.Layout.{Layout}
use Rattle.wg_graph.specs.Digraph.{Digraph, arc_count}
use Rattle.wg_encoder.specs.ArchiveInMemory.{Summarized, EncodedSoFar, HasEncoded}
use Rattle.wg_outcomes.specs.Written.{params_for}
use Rattle.wg_outcomes.specs.declared.ending.Ending.{Ending}
use Rattle.wg_writing.specs.Writing.{archive_of}

-- A graph of so many pages and arcs was read, and its lists are encoded.
pub record Encodes (reads : Result Digraph Ending → Type 0) (e : EncodedSoFar) (n m : ℕ) : Type 0 where
  pub graph : Digraph
  pub loads : reads (Ok graph)
  pub encoded : HasEncoded e graph.lists
  pub nodes : graph.nodes ≡ n
  pub arcs : arc_count graph ≡ m
  pub page : e.page ≡ n

-- A graph was read, and this is its greedy archive in a layout, in memory, with its parameters.
pub record Makes (reads : Result Digraph Ending → Type 0) (l : Layout) (p : Parameters) (a : Summarized) : Type 0 where
  pub graph : Digraph
  pub loads : reads (Ok graph)
  pub params : p ≡ params_for l graph
  pub is : a ≡ archive_of p graph
