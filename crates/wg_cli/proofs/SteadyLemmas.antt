-- What runs if nothing outside is at fault reports no fault.
use Rattle.std.proofs.Common.{◌≡◌, ◌≢◌, ◌⊎◌, inl, inr, ℕ, List, arith, refl, sym, ◌∙◌, subst, Option, Some, None}
use Rattle.wg_outside.specs.{Outside.Counts, Outside.Increased, declared.output.Output.Output}
use Rattle.wg_words.specs.declared.jobs.Job.{Job}
use Rattle.wg_outcomes.specs.{Causes.AreFaultless, Causes.HasCause, JobFiles.input_name, JobFiles.output_name}
use Rattle.wg_outcomes.specs.{declared.status.Input.Input, declared.status.Status.Status}
use Rattle.wg_outcomes.specs.declared.status.Status.TheVariants.{Usage, Memory, ReadFault, WriteFault}
use Rattle.wg_outcomes.proofs.PerformsLemmas.{not_at, no_fault_in}
use Rattle.wg_cli.specs.Lines.{Reports}

module _ (old new : List ℕ → Counts) (faults faults' : ℕ) (quiet : AreFaultless old new faults faults') (s : Status) where
  no_fault_here : (s ≡ Usage) ⊎ (s ≡ Memory) → (f : Status) → (Usage ≡ f → ⊥) → (Memory ≡ f → ⊥) → s ≢ f
  no_fault_here (inl usage) f u m is = u (sym usage ∙ is)
  no_fault_here (inr want) f u m is = m (sym want ∙ is)

  pub no_read_fault : (asked : Option Job) → (asked ≡ None → (s ≡ Usage) ⊎ (s ≡ Memory))
      → ((job : Job) → asked ≡ Some job → HasCause (input_name job) (output_name job) old new faults faults' s) → (i : Input) → s ≢ ReadFault i
  no_read_fault None none some i is = no_fault_here (none refl) (ReadFault i) (λ e. cc) (λ e. cc) is
  no_read_fault (Some job) none some i is = not_at (λ c. c.read_faults) (input_name job i) old new quiet.reads ((some job refl).read_fault i is)

  pub no_write_fault : (asked : Option Job) → (asked ≡ None → (s ≡ Usage) ⊎ (s ≡ Memory))
      → ((job : Job) → asked ≡ Some job → HasCause (input_name job) (output_name job) old new faults faults' s) → (o : Output) → s ≢ WriteFault o
  no_write_fault None none some o is = no_fault_here (none refl) (WriteFault o) (λ e. cc) (λ e. cc) is
  no_write_fault (Some job) none some o is =
      no_fault_in (input_name job) (output_name job) old new faults faults' quiet o
      (subst (λ (x : Status). HasCause (input_name job) (output_name job) old new faults faults' x) is (some job refl))

-- what counts no fault reports only in part if it was out of memory
in_want : (W : Type 0) → Increased 0 0 ⊎ W → W
in_want W (inl (inl less)) = absurd (omega (arith, less))
in_want W (inl (inr last)) = absurd (omega (arith, last))
in_want W (inr want) = want

pub only_wants : (W : Type 0) (line old new : List ℕ) → Reports line old new (Increased 0 0 ⊎ W) → Reports line old new W
only_wants W line old new (inl whole) = inl whole
only_wants W line old new (inr cut) = inr (cut.0, cut.1, cut.2, in_want W cut.3)
