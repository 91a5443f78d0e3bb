-- What contracts see of records and of an archive.
use Rattle.std.specs.Prelude.{ℕ, Bool, List, Ok}
use Rattle.wg_params.specs.Parameters.{Parameters}
use Rattle.wg_grammar.specs.Archive.{ReadsGraph}

-- the parameters, the bits of the graph file, and the offset of each record and last the end of the last one
pub record CheckedRecords : Type 0 where
  pub params : Parameters
  pub bits : List Bool
  pub offsets : List ℕ

-- the bits stand for a graph, whose records have these offsets
abbrev pub StandsForGraph : CheckedRecords → Type 0
StandsForGraph h = (graph : List (List ℕ))
    × ReadsGraph h.params h.bits (Ok (record { graph = graph; places = h.offsets }))
