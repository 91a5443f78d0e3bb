-- What a call that reads from a source answers.
use Rattle.std.specs.Prelude.{Result, Ok, Err}
use Rattle.wg_grammar.specs.declared.error.ReadError.{ReadError}
use Rattle.wg_grammar.specs.declared.error.ReadError.TheVariants.{Fault, Memory, Refused}
use Rattle.wg_grammar.specs.declared.fault.ArchiveFault.{ArchiveFault}
use Rattle.wg_grammar.specs.declared.fault.ArchiveFault.TheVariants as archive
use Rattle.wg_grammar.specs.declared.fault.Fault.{Fault as RecordFault}

-- what holds of the fault, if the error is one; memory may run out at any time
abbrev pub OfFault : {F R : Type 0} → ReadError F R → (F → Type 0) → Type 0
OfFault (Fault f) P = P f
OfFault Memory P = Unit {0}
OfFault (Refused r) P = Unit {0}

abbrev pub OnFault : {A F R : Type 0} → Result A (ReadError F R) → (F → Type 0) → Type 0
OnFault (Ok x) P = Unit {0}
OnFault (Err e) P = OfFault e P

-- what holds of the refusal, if the error is one
abbrev pub OfRefusal : {F R : Type 0} → ReadError F R → (R → Type 0) → Type 0
OfRefusal (Fault f) P = Unit {0}
OfRefusal Memory P = Unit {0}
OfRefusal (Refused r) P = P r

abbrev pub OnRefusal : {A F R : Type 0} → Result A (ReadError F R) → (R → Type 0) → Type 0
OnRefusal (Ok x) P = Unit {0}
OnRefusal (Err e) P = OfRefusal e P

-- the error is another than out of memory
abbrev pub OfOther : {F R : Type 0} → ReadError F R → Type 0
OfOther (Fault f) = Unit {0}
OfOther Memory = ⊥
OfOther (Refused r) = Unit {0}

abbrev pub WantsNoMemory : {A F R : Type 0} → Result A (ReadError F R) → Type 0
WantsNoMemory (Ok x) = Unit {0}
WantsNoMemory (Err e) = OfOther e

-- a fault of a record is one of the archive
abbrev pub of_record : {R : Type 0} → ReadError RecordFault R → ReadError ArchiveFault R
of_record (Fault f) = Fault (archive.Record f)
of_record Memory = Memory
of_record (Refused r) = Refused r
