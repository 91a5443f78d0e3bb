-- The names of an archive's files: its own with a suffix.
use Rattle.std.specs.Prelude.{ℕ, List, ◌++◌}
use Rattle.wg_outside.specs.declared.suffixes.TheConstants.{PROPERTIES, GRAPH, OFFSETS}

abbrev pub properties_name : List ℕ → List ℕ
properties_name base = base ++ PROPERTIES.now

abbrev pub graph_name : List ℕ → List ℕ
graph_name base = base ++ GRAPH.now

abbrev pub offsets_name : List ℕ → List ℕ
offsets_name base = base ++ OFFSETS.now
