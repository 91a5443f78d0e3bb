-- A file that is read as an input of a job, by what the reads of it say.
use Rattle.std.proofs.Common.{◌≡◌, ℕ, ◌≤◌, Bool, true, false, List, length, sym, ◌∙◌, ap, option_and_then, Option, Some, None, Result, Ok, Err, arith}
use Rattle.std.specs.{Bool.IsTrue, Result.IfErr, Result.IsErrAnd}
use Rattle.std.specs.FinMap as map
use Rattle.wg_outside.specs.Outside.{Files, Counts, Increased, NonDecreasing}
use Rattle.wg_outside.specs.Reads.{Loads as LoadsAt}
use Rattle.wg_outside.specs.{declared.limits.TheConstants.MOST_BYTES, declared.whole.LoadError.LoadError}
use Rattle.wg_outside.specs.declared.whole.LoadError.TheVariants as load
use Rattle.wg_outcomes.specs.{Answers.Answers, Judged.Judged, Judged.with_file, Names.held_by}
use Rattle.wg_outcomes.specs.{declared.ending.Ending.Ending, declared.status.Input.Input}
use Rattle.wg_outcomes.specs.declared.status.Status.TheVariants.{Done, Memory}
use Rattle.wg_outcomes.proofs.FileLemmas.{file_goes}
use Rattle.wg_outcomes.proofs.Statuses.{absent_caused, failed_caused, own_caused}
use Rattle.wg_readings.specs.{Loading.Loads, Pairing.status_at}
use Rattle.wg_readings.proofs.FindingLemmas.{of_input}

abbrev given : (B E : Type 0) → B → Result B E
given B E b = Ok b

abbrev error_in : (B E : Type 0) → E → Result B E
error_in B E e = Err e

abbrev pub Failed : Type 0 → LoadError → LoadError → Type 0
Failed B e f = error_in B LoadError e ≡ Err f

-- the job ends like this at what the outside holds under the name
answered : (i : Input) (held : Option (List ℕ)) (e : LoadError) → LoadsAt held (Err e) → (next : List ℕ → Judged) → Answers (with_file i held next) (status_at i e)
answered i held e h next = grind arith

module _ (i : Input) (names : Input → Option (List ℕ)) (name : List ℕ) (told : Bool) (files files' : Files) (counts counts' : List ℕ → Counts) (named : names i ≡ Some name) where
  here : held_by names files i ≡ map.get files name
  here = ap (λ (o : Option (List ℕ)). option_and_then (map.get files) o) named

  -- it was not read
  pub load_ends : (B : Type 0) (e : LoadError) (s : Ending) → s.status ≡ status_at i e → (IsTrue told → LoadsAt (map.get files name) (Err e))
      → (Failed B e load.Absent → Increased (counts name).absences (counts' name).absences) → (Failed B e load.Failed → Increased (counts name).read_faults (counts' name).read_faults)
      → files' ≡ files → NonDecreasing counts counts' → Loads names i told files files' counts counts' (Err s)
  load_ends B e s is refused absent failed same later = grind (arith, of_input, answered, here, absent_caused, own_caused, failed_caused)

  -- it was
  pub load_whole : (bytes : List ℕ) → (IsTrue told → LoadsAt (map.get files name) (Ok bytes)) → length bytes ≤ MOST_BYTES → files' ≡ files → NonDecreasing counts counts' → Loads names i told files files' counts counts' (Ok bytes)
  load_whole bytes loads short same later = record {
    steps = λ t next. ap (λ (o : Option (List ℕ)). with_file i o next) (held t) ∙ file_goes i bytes short next;
    held = held;
    causes = own_caused _ _ _ _ _ _ Done tt;
    mine = tt;
    same = same;
    later = later;
    short = short;
  }
    where
      by_bytes : (o : Option (List ℕ)) → LoadsAt o (Ok bytes) → o ≡ Some bytes
      by_bytes None is = absurd (cc is)
      by_bytes (Some file) is = ap Some (sym is.0)

      held : IsTrue told → held_by names files i ≡ Some bytes
      held t = here ∙ by_bytes (map.get files name) (loads t)

-- ---- an answer that is handed on
pub alike : {B E F : Type 0} {a b : B} → given B E a ≡ given B E b → given B F a ≡ given B F b
alike is = cc is

pub no_answer : {B E : Type 0} (e : E) (b : B) → error_in B E e ≡ given B E b → ⊥
no_answer e b is = cc is

pub none_of : {A : Type 0} → ⊥ → A
none_of bad = absurd bad

-- ---- memory ran out
pub is_memory : {B : Type 0} (r : Result B Ending) → IsErrAnd r (λ e. e ≡ record { status = Memory; promised = 0 }) → IfErr r (λ e. e.status ≡ Memory)
is_memory r h = grind arith

-- nobody looked yet
pub not_looked : {b : Bool} → b ≡ false → b ≡ true → ⊥
not_looked is looked = cc (is, looked)
