-- What the first error of a reading says.
use Rattle.std.specs.Prelude.{◌≡◌}
use Rattle.wg_outside.specs.declared.whole.LoadError.{LoadError}
use Rattle.wg_outside.specs.declared.whole.LoadError.TheVariants as load
use Rattle.wg_grammar.specs.declared.fault.ArchiveFault.{ArchiveFault}
use Rattle.wg_grammar.specs.declared.fault.ArchiveFault.TheVariants as archive
use Rattle.wg_grammar.specs.declared.error.ReadError.{ReadError}
use Rattle.wg_grammar.specs.declared.error.ReadError.TheVariants.{Fault, Memory, Refused}
use Rattle.wg_stream.specs.declared.first.First.{First}
use Rattle.wg_stream.specs.declared.first.First.TheVariants as first
use Rattle.wg_stream.specs.declared.stream_error.StreamError.{StreamError}
use Rattle.wg_stream.specs.declared.stream_error.StreamError.TheVariants as errors

abbrev pub of_load : LoadError → First
of_load load.Absent = first.Absent
of_load load.Failed = first.Failed
of_load load.TooLong = first.TooLong
of_load load.Memory = first.Memory

-- the error tells this fault; the records and the tail have none of the offsets
abbrev pub Tells : ArchiveFault → First → Type 0
Tells (archive.Record f) e = e ≡ first.Fault f
Tells (archive.Tail offset) e = e ≡ first.Tail offset
Tells (archive.ArcsShort total) e = e ≡ first.ArcsShort total
Tells (archive.Offsets f) e = ⊥
Tells (archive.Length page found stored) e = ⊥

-- the error says why the records were not read to their end
abbrev pub Says : ReadError ArchiveFault LoadError → First → Type 0
Says (Fault f) e = Tells f e
Says Memory e = e ≡ first.Memory
Says (Refused l) e = e ≡ of_load l

-- the error as it is reported the first time
abbrev pub of_first : First → StreamError
of_first (first.Fault f) = errors.Fault f
of_first (first.Tail offset) = errors.Tail offset
of_first (first.ArcsShort total) = errors.ArcsShort total
of_first first.Failed = errors.Failed
of_first first.Absent = errors.Absent
of_first first.TooLong = errors.TooLong
of_first first.Memory = errors.Memory

-- what holds of the fault of the file, if the error is one
abbrev pub OfGraph : First → (ArchiveFault → Type 0) → Type 0
OfGraph (first.Fault f) P = P (archive.Record f)
OfGraph (first.Tail offset) P = P (archive.Tail offset)
OfGraph (first.ArcsShort total) P = P (archive.ArcsShort total)
OfGraph first.Failed P = Unit {0}
OfGraph first.Absent P = Unit {0}
OfGraph first.TooLong P = Unit {0}
OfGraph first.Memory P = Unit {0}

-- what holds of the refusal of the outside, if the error is one; memory may run out at any time
abbrev pub OfOutside : First → (LoadError → Type 0) → Type 0
OfOutside first.Failed P = P load.Failed
OfOutside first.Absent P = P load.Absent
OfOutside first.TooLong P = P load.TooLong
OfOutside first.Memory P = Unit {0}
OfOutside (first.Fault f) P = Unit {0}
OfOutside (first.Tail offset) P = Unit {0}
OfOutside (first.ArcsShort total) P = Unit {0}
