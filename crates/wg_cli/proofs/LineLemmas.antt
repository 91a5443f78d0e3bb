-- What a line names as promised, and why one is cut off.
use Rattle.std.specs.Prelude.{IsErr}
use Rattle.std.proofs.Common.{◌≡◌, ◌⊎◌, inl, inr, ℕ, Bool, true, false, Option, Some, None, Result, Ok, Err, refl, sym, ◌∙◌, ap}
use Rattle.wg_outside.specs.{Outside.Files, Outside.Increased, Refusals.SinkRefusals}
use Rattle.wg_outside.specs.declared.depot.WriteError.{WriteError}
use Rattle.wg_outside.specs.declared.depot.WriteError.TheVariants as write
use Rattle.wg_outside.specs.declared.sink.Sink as sink
use Rattle.wg_words.specs.declared.jobs.Job.{Job}
use Rattle.wg_cli.specs.Wanted.{ArePromisedBy}
use Rattle.wg_outcomes.specs.declared.status.Status.{Status}
use Rattle.wg_outcomes.specs.declared.status.Status.TheVariants.{Done, Memory}

-- out of memory names none
pub nothing_promised : (o : Option Job) (files : Files) (n : ℕ) → ArePromisedBy o files Memory n
nothing_promised None files n = tt
nothing_promised (Some job) files n = tt

-- any other status is not Done
abbrev pub is_done : Status → Bool
is_done Done = true
is_done _ = false

pub not_done : {A : Type 0} (s : Status) → is_done s ≡ false → s ≡ Done → A
not_done s other is = let no : false ≡ true = sym other ∙ ap is_done is in absurd cc

-- what was not written was refused, and counted
pub refused : {S A : Type 0} (s : sink.Ghosts S) (a b : S) (r : Result A WriteError) → SinkRefusals s a b r → IsErr r → Increased (s.faults a) (s.faults b) ⊎ Increased (s.wants a) (s.wants b)
refused s a b (Ok x) h is = let no : false ≡ true = is in absurd cc
refused s a b (Err write.Failed) h is = inl (h.failed refl)
refused s a b (Err write.Memory) h is = inr (h.memory refl)
