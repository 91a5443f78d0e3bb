-- The union of two graphs, on its way into an archive in memory.
use Rattle.std.specs.Prelude.{◌≡◌, ℕ, max}
use Rattle.wg_params.specs.declared.limits.TheConstants.{MOST_ARCS}
use Rattle.wg_graph.specs.Digraph.{Digraph, IsGraph}
use Rattle.wg_encoder.specs.ArchiveInMemory.{EncodedSoFar, HasEncoded}
use Rattle.wg_shape.specs.Graphs.{AreAt, lists_of}

-- The lists of the pages before one are encoded, and those of this page come next in both graphs.
pub record IsUniting (g : Digraph) (a : ℕ) (h : Digraph) (b : ℕ) (e : EncodedSoFar) : Type 0 where
  pub first : IsGraph g
  pub second : IsGraph h
  pub nodes : e.params.nodes ≡ max g.nodes h.nodes
  pub most : e.params.arcs ≡ MOST_ARCS
  pub place : AreAt e.page g a h b
  pub encoded : HasEncoded e (lists_of g h e.page)
