-- A fault or a refusal of a part as one of the whole.
use Rattle.std.proofs.Common.{◌≡◌, Result, Ok, Err, subst}
use Rattle.wg_grammar.specs.declared.error.ReadError.{ReadError}
use Rattle.wg_grammar.specs.declared.error.ReadError.TheVariants.{Fault, Memory, Refused}
use Rattle.wg_grammar.specs.declared.fault.ArchiveFault.{ArchiveFault}
use Rattle.wg_grammar.specs.declared.fault.ArchiveFault.TheVariants as archive
use Rattle.wg_grammar.specs.declared.fault.Fault.{Fault as RecordFault}
use Rattle.wg_grammar.specs.Errors.{OfFault, OfRefusal, OnFault, OnRefusal, of_record}

pub fault_weaker : {F R : Type 0} (x : ReadError F R) (P Q : F → Type 0) → ((f : F) → P f → Q f) → OfFault x P → OfFault x Q
fault_weaker (Fault f) P Q on h = on f h
fault_weaker Memory P Q on h = tt
fault_weaker (Refused r) P Q on h = tt

pub refusal_weaker : {F R : Type 0} (x : ReadError F R) (P Q : R → Type 0) → ((r : R) → P r → Q r) → OfRefusal x P → OfRefusal x Q
refusal_weaker (Fault f) P Q on h = tt
refusal_weaker Memory P Q on h = tt
refusal_weaker (Refused r) P Q on h = on r h

-- what holds of a fault or a refusal, of an answer that may be no error
pub faults_weaker : {A F R : Type 0} (x : Result A (ReadError F R)) (P Q : F → Type 0) → ((f : F) → P f → Q f) → OnFault x P → OnFault x Q
faults_weaker (Ok a) P Q on h = tt
faults_weaker (Err e) P Q on h = fault_weaker e P Q on h

pub refusals_weaker : {A F R : Type 0} (x : Result A (ReadError F R)) (P Q : R → Type 0) → ((r : R) → P r → Q r) → OnRefusal x P → OnRefusal x Q
refusals_weaker (Ok a) P Q on h = tt
refusals_weaker (Err e) P Q on h = refusal_weaker e P Q on h

pub fault_is : {F R : Type 0} (x : ReadError F R) (f : F) (P : F → Type 0) → x ≡ Fault f → OfFault x P → P f
fault_is {F = F} {R = R} x f P is h = subst (λ (y : ReadError F R). OfFault y P) is h

-- an error of a record as one of the archive
pub record_fault : {R : Type 0} (x : ReadError RecordFault R) (P : RecordFault → Type 0) (Q : ArchiveFault → Type 0) → ((f : RecordFault) → P f → Q (archive.Record f)) → OfFault x P
    → OfFault (of_record x) Q
record_fault (Fault f) P Q on h = on f h
record_fault Memory P Q on h = tt
record_fault (Refused r) P Q on h = tt

pub record_refusal : {R : Type 0} (x : ReadError RecordFault R) (P : R → Type 0) → OfRefusal x P → OfRefusal (of_record x) P
record_refusal (Fault f) P h = tt
record_refusal Memory P h = tt
record_refusal (Refused r) P h = h
