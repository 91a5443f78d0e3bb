-- What stands of a file after calls on it, and why they stopped.
use Rattle.std.proofs.Common.{◌≡◌, ◌≢◌, inl, inr, ℕ, Bool, List, [], refl, sym, ap, subst, ◌∙◌, Option, Some, Result, Ok, Err, arith}
use Rattle.std.specs.Result.{IfErr, IsErrAnd}
use Rattle.std.specs.FinMap as map
use Rattle.wg_outside.specs.{Outside.Files, Outside.Counts, Outside.created, declared.output.Output.Output}
use Rattle.wg_outside.proofs.{FilesLemmas.get-insert_same, FilesLemmas.get-insert_other, PutsLemmas.is_that_err}
use Rattle.wg_outcomes.specs.{Causes.IncreasedAt, Written.IsStopped, Written.IsStoppedAt, Written.Touches}
use Rattle.wg_outcomes.specs.{declared.ending.Ending.Ending, declared.status.Status.Status}
use Rattle.wg_outcomes.specs.declared.status.Status.TheVariants.{WriteFault}
use Rattle.wg_outcomes.proofs.Statuses.{by_stop}

-- ---- results
pub if_that_err : {A E : Type 0} (P : E → Type 0) (r : Result A E) (e : E) → IsErrAnd r (λ x. x ≡ e) → P e → IfErr r P
if_that_err P r e h h2 = grind arith

-- ---- a file that is created
pub created_here : (f h : Files) (m : List ℕ) → h ≡ created f m → map.get h m ≡ Some []
created_here f h m is = ap (λ (x : Files). map.get x m) is ∙ get-insert_same f m []

pub created_there : (f h : Files) (m q : List ℕ) → h ≡ created f m → q ≢ m → map.get h q ≡ map.get f q
created_there f h m q is other = ap (λ (x : Files). map.get x q) is ∙ get-insert_other f m [] q other

-- ---- why it stopped

pub stopped_at : (o : Output) (s : Status) → IsStoppedAt o s → IsStopped s
stopped_at o s only = by_stop IsStopped o s only (inl (o, refl)) (inr refl)

-- a fault is that of the file that was called
pub rose_there : (names : Output → Option (List ℕ)) (o : Output) (m : List ℕ) → names o ≡ Some m → (old new : List ℕ → Counts) (s : Status) → IsStoppedAt o s
    → (s ≡ WriteFault o → IncreasedAt (λ c. c.write_faults) (Some m) old new) → (x : Output) → s ≡ WriteFault x → IncreasedAt (λ c. c.write_faults) (names x) old new
rose_there names o m h old new s h2 h3 x h4 = grind arith

-- calls on a file follow one another
pub touches_twice : (o : Output) (m : List ℕ) (told : Bool) (f g h : Files) (a b c : List ℕ → Counts) (r : Result (Unit {0}) Ending) → Touches o m told f g a b (Ok tt) → Touches o m told g h b c r
    → Touches o m told f h a c r
touches_twice o m told f g h a b c r one two = grind arith

-- the exit of a `?`
pub touches_exit : (o : Output) (m : List ℕ) (told : Bool) (f g : Files) (a b : List ℕ → Counts) (r : Result (Unit {0}) Ending) (e : Ending) → IsErrAnd r (λ x. x ≡ e) → Touches o m told f g a b (Err e)
    → Touches o m told f g a b r
touches_exit o m told f g a b r e is h = subst (λ (x : Result (Unit {0}) Ending). Touches o m told f g a b x) (sym (is_that_err r e is)) h
