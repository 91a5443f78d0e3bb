-- What calls that write promise of refusals: an error comes only if the outside counted it.
use Rattle.std.specs.Prelude.{ℕ, ◌≤◌, List, Result, IsErrOf}
use Rattle.wg_outside.specs.Outside.{Counts, Increased, NonDecreasing}
use Rattle.wg_outside.specs.declared.depot.WriteError.{WriteError}
use Rattle.wg_outside.specs.declared.depot.WriteError.TheVariants as write
use Rattle.wg_outside.specs.declared.sink.Sink as sink

-- of a file by its name, from the counts of all names before and after
pub record FileRefusals {A : Type 0} (before after : List ℕ → Counts) (name : List ℕ) (result : Result A WriteError)
    : Type 0 where
  -- it failed only if a call on this name was counted as failed
  pub failed : IsErrOf result write.Failed → Increased (before name).write_faults (after name).write_faults
  -- it found no memory only if this was counted
  pub memory : IsErrOf result write.Memory → Increased (before name).wants (after name).wants
  -- no count falls
  pub later : NonDecreasing before after

-- of a sink, by its ghost members
pub record SinkRefusals {S A : Type 0} (s : sink.Ghosts S) (before after : S) (result : Result A WriteError)
    : Type 0 where
  -- it failed only if a write was counted as failed
  pub failed : IsErrOf result write.Failed → Increased (s.faults before) (s.faults after)
  -- it found no memory only if this was counted
  pub memory : IsErrOf result write.Memory → Increased (s.wants before) (s.wants after)
  -- no count falls
  pub counts : (s.faults before ≤ s.faults after) × (s.wants before ≤ s.wants after)
