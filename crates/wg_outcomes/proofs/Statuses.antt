-- What a status tells by itself, however the job has come to it.
use Rattle.std.proofs.Common.{◌≡◌, ◌≤◌, ℕ, List, sym, subst, refl, Option, Some, Result, Err, arith}
use Rattle.std.specs.Result.{IfErr}
use Rattle.wg_outside.specs.{Outside.Counts, Outside.Increased, declared.output.Output.Output, Refusals.SinkRefusals}
use Rattle.wg_outside.specs.{declared.output.Output.TheVariants.Out, declared.depot.WriteError.WriteError}
use Rattle.wg_outside.proofs.PutsLemmas.{not_rose}
use Rattle.wg_outside.specs.declared.sink.Sink as sink
use Rattle.wg_outcomes.specs.Answers.{IsHindrance, IsUnput, PrintRefusals, status_in, unput}
use Rattle.wg_outcomes.specs.{Causes.HasCause, Causes.IncreasedAt, Names.IsOfInput, Names.no_outputs}
use Rattle.wg_outcomes.specs.{Promised.IsStopAt, Promised.IsBadFile, Written.IsStopped, Written.IsStoppedAt}
use Rattle.wg_outcomes.specs.{declared.ending.Ending.Ending, declared.status.Input.Input, declared.status.Status.Status}
use Rattle.wg_outcomes.specs.declared.status.Status.TheVariants.{Done, Memory, ReadFault, WriteFault, Missing, OverLimit}

-- a count that rose later rose
pub rose_late : (count : Counts → ℕ) (name : Option (List ℕ)) (a b c : List ℕ → Counts) → ((n : List ℕ) → count (a n) ≤ count (b n)) → IncreasedAt count name b c → IncreasedAt count name a c
rose_late count name a b c h h2 = grind arith

-- ---- what is said of each way to end is said of the status
module _ (P : Status → Type 0) where
  pub by_stop : (o : Output) (s : Status) → IsStoppedAt o s → P (WriteFault o) → P Memory → P s
  by_stop o s h h2 h3 = grind arith

  pub by_stopped : (s : Status) → IsStopped s → ((o : Output) → P (WriteFault o)) → P Memory → P s
  by_stopped s h h2 h3 = grind arith

  pub by_input : (i : Input) (s : Status) → IsOfInput i s → P Memory → P (ReadFault i) → P (Missing i) → P (OverLimit i) → P s
  by_input i s h h2 h3 h4 h5 = grind arith

  pub by_put : (r : Result (Unit {0}) Ending) → IfErr r (λ e. IsUnput e.status) → P Done → P (WriteFault Out) → P Memory → P (status_in r)
  by_put r h h2 h3 h4 = grind arith

  pub by_written : (r : Result (Unit {0}) Ending) → IfErr r (λ e. IsStopped e.status) → P Done → ((o : Output) → P (WriteFault o)) → P Memory → P (status_in r)
  by_written r h h2 h3 h4 = grind arith

-- ---- what a status tells of the outside

-- nothing outside is the cause
abbrev pub IsOwn : Status → Type 0
IsOwn (ReadFault i) = ⊥
IsOwn (Missing i) = ⊥
IsOwn (WriteFault o) = ⊥
IsOwn _ = Unit {0}

-- no input is
abbrev pub IsRead : Status → Type 0
IsRead (ReadFault i) = ⊥
IsRead (Missing i) = ⊥
IsRead _ = Unit {0}

-- it comes before any output
abbrev pub IsStop : Status → Type 0
IsStop Done = ⊥
IsStop (WriteFault o) = ⊥
IsStop _ = Unit {0}

-- no other input is
abbrev pub IsOnly : Input → Status → Type 0
IsOnly i (ReadFault j) = i ≡ j
IsOnly i (Missing j) = i ≡ j
IsOnly i _ = Unit {0}

module _ (names : Input → Option (List ℕ)) (outputs : Output → Option (List ℕ)) (old new : List ℕ → Counts) (f f' : ℕ) where
  pub own_caused : (s : Status) → IsOwn s → HasCause names outputs old new f f' s
  own_caused s own = grind arith

  -- ---- an output is

  -- a last step that only the output can end
  pub unput_cause : (r : Result (Unit {0}) Ending) → IfErr r (λ e. IsUnput e.status) → (status_in r ≡ WriteFault Out → Increased f f') → HasCause names outputs old new f f' (status_in r)
  unput_cause r only rose = grind arith

  -- ---- an input is, which has this name
  module _ (i : Input) (name : List ℕ) (named : names i ≡ Some name) where
    pub failed_caused : Increased (old name).read_faults (new name).read_faults → HasCause names outputs old new f f' (ReadFault i)
    failed_caused rose = grind arith

    pub absent_caused : Increased (old name).absences (new name).absences → HasCause names outputs old new f f' (Missing i)
    absent_caused rose = grind arith

-- ---- a file is at fault
module _ (i : Input) (n : ℕ) (e : Ending) where
  pub bad_own : IsBadFile i n e → IsOwn e.status
  bad_own bad = grind arith

  pub bad_unread : (j : Input) → IsBadFile i n e → e.status ≡ ReadFault j → ⊥
  bad_unread j bad is = subst IsOwn is (bad_own bad)

  -- a stop at a file is not the end of a job that was done
  pub never_done : IsStopAt i n e → e.status ≡ Done → ⊥
  never_done h h2 = grind arith

-- ---- an input was not read
module _ (i : Input) (s : Status) where
  is_only : IsOfInput i s → IsOnly i s
  is_only only = by_input (IsOnly i) i s only tt refl refl tt

  pub no_write : (o : Output) → IsOfInput i s → s ≡ WriteFault o → ⊥
  no_write o only is = subst IsStop is (by_input IsStop i s only tt tt tt tt)

  pub own_read : (j : Input) → IsOfInput i s → s ≡ ReadFault j → i ≡ j
  own_read j only is = subst (IsOnly i) is (is_only only)

  -- the cause of a reading, by another naming of the same input
  pub cause_named : (mine yours : Input → Option (List ℕ)) (outputs : Output → Option (List ℕ)) (old new : List ℕ → Counts) (f f' : ℕ) → IsOfInput i s → yours i ≡ mine i
      → HasCause mine no_outputs old new 0 0 s → HasCause yours outputs old new f f' s
  cause_named mine yours outputs old new f f' only same cause = record {
    read_fault = λ j is. moved (λ c. c.read_faults) j (own_read j only is) (cause.read_fault j is);
    missing = λ j is. moved (λ c. c.absences) j (subst (IsOnly i) is (is_only only)) (cause.missing j is);
    write_fault = λ o other is. absurd (no_write o only is);
    out_fault = λ is. absurd (no_write Out only is);
  }
    where
      moved : (count : Counts → ℕ) (j : Input) → i ≡ j → IncreasedAt count (mine j) old new → IncreasedAt count (yours j) old new
      moved count j is rose =
          subst (λ (n : Option (List ℕ)). IncreasedAt count n old new) (subst (λ (k : Input). mine k ≡ yours k) is (sym same)) rose

-- ---- by the counts of files alone
pub any_faults : (names : Input → Option (List ℕ)) (outputs : Output → Option (List ℕ)) (old new : List ℕ → Counts) (f f' : ℕ) (s : Status) → HasCause names outputs old new 0 0 s → HasCause names outputs old new f f' s
any_faults names outputs old new f f' s h = record { read_fault = h.read_fault; missing = h.missing; write_fault = h.write_fault; out_fault = λ is. not_rose (h.out_fault is) }

-- ---- the output hinders a job
pub unput_hinders : (s : Status) → IsUnput s → IsHindrance s
unput_hinders s only = by_stop IsHindrance Out s only tt tt

-- ---- an output took no more
pub print_refused : {S A : Type 0} (s : sink.Ghosts S) (before after : S) (w : WriteError) → SinkRefusals {A = A} s before after (Err w) → PrintRefusals {A = A} s before after (Err (unput w))
print_refused s before after w h = grind arith
