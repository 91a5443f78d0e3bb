-- What the outside shows of an answer.
use Rattle.std.specs.Prelude.{◌≡◌, ◌≢◌, ℕ, List, Option, Some, None}
use Rattle.wg_outside.specs.Outside.{Counts, Increased}
use Rattle.wg_outside.specs.declared.output.Output.{Output}
use Rattle.wg_outside.specs.declared.output.Output.TheVariants as output
use Rattle.wg_outcomes.specs.declared.status.Input.{Input}
use Rattle.wg_outcomes.specs.declared.status.Status.{Status}
use Rattle.wg_outcomes.specs.declared.status.Status.TheVariants.{ReadFault, WriteFault, Missing}

-- there is such a file, and this count of its name increased
abbrev pub IncreasedAt : (Counts → ℕ) → Option (List ℕ) → (List ℕ → Counts) → (List ℕ → Counts) → Type 0
IncreasedAt count None old new = ⊥
IncreasedAt count (Some name) old new = Increased (count (old name)) (count (new name))

-- a fault or an absence is reported only if the count of its own file rose, and a fault of the output if the output's
-- faults rose
pub record HasCause (inputs : Input → Option (List ℕ)) (outputs : Output → Option (List ℕ))
    (old new : List ℕ → Counts) (faults faults' : ℕ) (status : Status) : Type 0 where
  pub read_fault : (i : Input) → status ≡ ReadFault i → IncreasedAt (λ c. c.read_faults) (inputs i) old new
  pub missing : (i : Input) → status ≡ Missing i → IncreasedAt (λ c. c.absences) (inputs i) old new
  pub write_fault : (o : Output) → o ≢ output.Out → status ≡ WriteFault o
      → IncreasedAt (λ c. c.write_faults) (outputs o) old new
  pub out_fault : status ≡ WriteFault output.Out → Increased faults faults'

-- Nothing outside was at fault: no count of faults increased, and none stands at its last value.
pub record AreFaultless (old new : List ℕ → Counts) (faults faults' : ℕ) : Type 0 where
  pub reads : (name : List ℕ) → ¬ Increased (old name).read_faults (new name).read_faults
  pub writes : (name : List ℕ) → ¬ Increased (old name).write_faults (new name).write_faults
  pub output : ¬ Increased faults faults'
