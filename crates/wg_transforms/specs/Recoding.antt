-- The graph of an archive on its way into another, list by list.
use Rattle.std.specs.Prelude.{◌≡◌, ℕ, Bool, List, Ok}
use Rattle.wg_outside.specs.Outside.{Files, Counts}
use Rattle.wg_outside.specs.declared.depot.Depot as depot
use Rattle.wg_params.specs.Parameters.{Parameters}
use Rattle.wg_graph.specs.Digraph.{Digraph, arc_count}
use Rattle.wg_encoder.specs.ArchiveInMemory.{Summarized}
use Rattle.wg_readings.specs.Loading.{LoadsGraph}
use Rattle.wg_writing.specs.Writing.{archive_of}

-- The graph of an archive was read, and this is its greedy archive with other parameters, in memory.
pub record Recodes (base : List ℕ) (p made : Parameters) (told : Bool) (files files' : Files)
    (counts counts' : List ℕ → Counts) (a : Summarized) : Type 0 where
  pub graph : Digraph
  pub loads : LoadsGraph base p told files files' counts counts' (Ok graph)
  -- it has as many arcs as its parameters promise
  pub arcs : arc_count graph ≡ p.arcs
  pub is : a ≡ archive_of made graph

abbrev pub RecodesBy : {D : Type 0} → depot.Ghosts D → List ℕ → Parameters → Parameters → D → D → Summarized → Type 0
RecodesBy d base p made before after a =
    Recodes base p made d.told (d.files before) (d.files after) (d.counts before) (d.counts after) a
