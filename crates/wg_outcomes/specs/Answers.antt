-- Which status a validation leads to.
use Rattle.std.specs.Prelude.{◌≡◌, ◌⊎◌, ℕ, ◌<◌, nat_eq, if◌then◌else◌, List, ◌++◌, length, take, Option, None, Result, Ok, Err, IfErr}
use Rattle.wg_outside.specs.Outside.{Increased}
use Rattle.wg_outside.specs.declared.depot.WriteError.{WriteError}
use Rattle.wg_outside.specs.declared.depot.WriteError.TheVariants as write
use Rattle.wg_outside.specs.declared.sink.Sink as sink
use Rattle.wg_outside.specs.declared.output.Output.TheVariants.{Out}
use Rattle.wg_outcomes.specs.Judged.{Judged, status_of}
use Rattle.wg_outcomes.specs.Names.{input_code}
use Rattle.wg_outcomes.specs.declared.ending.Ending.{Ending}
use Rattle.wg_outcomes.specs.declared.status.Input.{Input}
use Rattle.wg_outcomes.specs.declared.status.Status.{Status}
use Rattle.wg_outcomes.specs.declared.status.Status.TheVariants.{Done, Memory, ReadFault, WriteFault}

-- what may come in place of the validation: out of memory, or a fault of the outside
abbrev pub IsHindrance : Status → Type 0
IsHindrance Memory = Unit {0}
IsHindrance (ReadFault i) = Unit {0}
IsHindrance (WriteFault o) = Unit {0}
IsHindrance _ = ⊥

-- the status is that of the validation, or something came in its place
abbrev pub Answers : Judged → Status → Type 0
Answers judgement status = (status ≡ status_of judgement) ⊎ IsHindrance status

-- One step of a validation: it goes on with this value whatever comes next, or it ends like this whatever would come
-- next.
abbrev pub Steps : {B : Type 0} → ((B → Judged) → Judged) → Result B Ending → Type 0
Steps {B} step (Ok b) = (next : B → Judged) → step next ≡ next b
Steps {B} step (Err e) = (next : B → Judged) → Answers (step next) e.status

-- the status of what has ended or was done
abbrev pub status_in : {B : Type 0} → Result B Ending → Status
status_in (Ok b) = Done
status_in (Err e) = e.status

-- all but one input
abbrev pub without : Input → (Input → Option (List ℕ)) → Input → Option (List ℕ)
without i held j = if nat_eq (input_code i) (input_code j) then None else held j

-- all of the output at Done; a prefix of it if memory ran out or an input was not read; a prefix that lacks
-- something if the output itself failed; and nothing at a refusal, or if a file could not be written
abbrev pub HasOutput : List ℕ → List ℕ → List ℕ → Status → Type 0
HasOutput due old new Done = new ≡ old ++ due
HasOutput due old new Memory = (k : ℕ) × (new ≡ old ++ take k due)
HasOutput due old new (ReadFault i) = (k : ℕ) × (new ≡ old ++ take k due)
HasOutput due old new (WriteFault Out) = (k : ℕ) × (k < length due) × (new ≡ old ++ take k due)
HasOutput due old new _ = new ≡ old

-- how the output ends a job
abbrev pub IsUnput : Status → Type 0
IsUnput status = (status ≡ WriteFault Out) ⊎ (status ≡ Memory)

-- the end of a job whose output took no more
abbrev pub unput : WriteError → Ending
unput write.Failed = record { status = WriteFault Out; promised = 0 }
unput write.Memory = record { status = Memory; promised = 0 }

-- nothing was printed, unless the job was done or ended at its output or out of memory
abbrev pub IsPutLast : Status → List ℕ → List ℕ → Type 0
IsPutLast status old new = (status ≡ Done) ⊎ IsUnput status ⊎ (new ≡ old)

-- nothing was printed if memory ran out, unless the output counted it
abbrev pub IsUnprinted : Status → List ℕ → List ℕ → ℕ → ℕ → Type 0
IsUnprinted status old new wants wants' = status ≡ Memory → (new ≡ old) ⊎ Increased wants wants'

-- a job ended at its output, and only if the output counted a fault or that it was out of memory
pub record PrintRefusals {S A : Type 0} (s : sink.Ghosts S) (before after : S) (result : Result A Ending) : Type 0 where
  pub only : IfErr result (λ e. IsUnput e.status)
  pub failed : status_in result ≡ WriteFault Out → Increased (s.faults before) (s.faults after)
  pub memory : status_in result ≡ Memory → Increased (s.wants before) (s.wants after)
