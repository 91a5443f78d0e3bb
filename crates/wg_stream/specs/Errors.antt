-- The faults that the records of an archive have.
use Rattle.wg_grammar.specs.declared.fault.ArchiveFault.{ArchiveFault}
use Rattle.wg_grammar.specs.declared.fault.ArchiveFault.TheVariants as archive

-- a fault of the graph file
abbrev pub IsOfGraph : ArchiveFault → Type 0
IsOfGraph (archive.Record f) = Unit {0}
IsOfGraph (archive.Tail offset) = Unit {0}
IsOfGraph (archive.ArcsShort total) = Unit {0}
IsOfGraph (archive.Offsets f) = ⊥
IsOfGraph (archive.Length page found stored) = ⊥
