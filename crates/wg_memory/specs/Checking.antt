-- Whether the files of an archive are in order.
use Rattle.std.specs.Prelude.{◌≡◌, ◌⊎◌, ℕ, Bool, List, length, map, Ok, Err}
use Rattle.wg_params.specs.Parameters.{Parameters}
use Rattle.wg_grammar.specs.Archive.{Accepted, ReadsGraph}
use Rattle.wg_grammar.specs.declared.fault.ArchiveFault.{ArchiveFault}
use Rattle.wg_grammar.specs.declared.fault.ArchiveFault.TheVariants.{Record, Tail, ArcsShort, Offsets, Length}
use Rattle.wg_offsets.specs.Words.{ReadsOffsets}
use Rattle.wg_offsets.specs.Places.{AgreeInLengths, IsFirstMismatch}

-- the bits stand for a graph
abbrev pub IsSound : Parameters → List Bool → Type 0
IsSound p bits = (a : Accepted) × ReadsGraph p bits (Ok a)

-- the bits of the graph file stand for a graph, and those of the offsets file tell the lengths of its records
pub record ArePaired (p : Parameters) (graph file : List Bool) : Type 0 where
  pub accepted : Accepted
  pub reads : ReadsGraph p graph (Ok accepted)
  pub stored : List ℕ
  pub words : ReadsOffsets p.offsets p.nodes file (Ok stored)
  pub agree : AgreeInLengths accepted.places stored

-- the first fault of the offsets file of a graph that is in order: a word, or the first page whose two lengths differ
abbrev pub IsFaultBeside : Parameters → Accepted → List Bool → ArchiveFault → Type 0
IsFaultBeside p a file (Record r) = ⊥
IsFaultBeside p a file (Tail at) = ⊥
IsFaultBeside p a file (ArcsShort arcs) = ⊥
IsFaultBeside p a file (Offsets w) = ReadsOffsets p.offsets p.nodes file (Err w)
IsFaultBeside p a file (Length page found stored) =
    (places : List ℕ) × ReadsOffsets p.offsets p.nodes file (Ok places)
    × IsFirstMismatch a.places places page found stored

-- the first fault of the two files: one of the graph comes first
abbrev pub IsFaultOfBoth : Parameters → List Bool → List Bool → ArchiveFault → Type 0
IsFaultOfBoth p graph file f =
    ReadsGraph p graph (Err f) ⊎ ((a : Accepted) × ReadsGraph p graph (Ok a) × IsFaultBeside p a file f)

-- these are the outdegrees of the graph that the bits stand for
abbrev pub AreOutdegrees : Parameters → List Bool → List ℕ → Type 0
AreOutdegrees p bits outdegrees = (a : Accepted) × ReadsGraph p bits (Ok a) × (outdegrees ≡ map length a.graph)
