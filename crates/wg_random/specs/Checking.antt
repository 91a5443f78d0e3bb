-- What a check of an archive answers.
use Rattle.std.specs.Prelude.{ℕ, List}
use Rattle.wg_grammar.specs.declared.fault.ArchiveFault.{ArchiveFault}
use Rattle.wg_grammar.specs.declared.fault.ArchiveFault.TheVariants.{Record, Tail, ArcsShort, Offsets, Length}
use Rattle.wg_offsets.specs.Places.{IsFirstMismatch}
use Rattle.wg_random.specs.declared.error.CheckError.{CheckError}
use Rattle.wg_random.specs.declared.error.CheckError.TheVariants.{Archive, Memory}

-- what holds of the fault, if the error is one; memory may run out at any time
abbrev pub OfArchive : CheckError → (ArchiveFault → Type 0) → Type 0
OfArchive (Archive f) P = P f
OfArchive Memory P = Unit {0}

-- the first record whose length by these offsets is another by the others
abbrev pub IsLengthFault : List ℕ → List ℕ → ArchiveFault → Type 0
IsLengthFault here there (Length page found stored) = IsFirstMismatch here there page found stored
IsLengthFault here there (Record f) = ⊥
IsLengthFault here there (Tail offset) = ⊥
IsLengthFault here there (ArcsShort total) = ⊥
IsLengthFault here there (Offsets f) = ⊥
