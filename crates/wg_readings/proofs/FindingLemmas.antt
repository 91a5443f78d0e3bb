-- A file that is looked for, and one of which no more is read.
use Rattle.std.proofs.Common.{◌≡◌, ◌≢◌, ℕ, ◌<◌, Bool, true, false, List, [], length, refl, sym, ◌∙◌, ap, subst, option_and_then, Option, Some, None, Err, arith}
use Rattle.std.specs.Bool.{IsTrue}
use Rattle.std.specs.FinMap as map
use Rattle.wg_outside.specs.{Outside.Files, Outside.Counts, declared.limits.TheConstants.MOST_BYTES}
use Rattle.wg_outside.specs.declared.whole.LoadError.{LoadError}
use Rattle.wg_outside.specs.declared.whole.LoadError.TheVariants as load
use Rattle.wg_source.specs.Held.{HeldBytes, IsHeldOf}
use Rattle.wg_source.specs.Stepping.{Steps as StepsOn, HasCause as HasReadCause}
use Rattle.wg_outcomes.specs.{Answers.Answers, Causes.HasCause, Judged.Judged, Judged.with_file}
use Rattle.wg_outcomes.specs.{Names.IsOfInput, Names.held_by, Names.no_outputs, declared.ending.Ending.Ending}
use Rattle.wg_outcomes.specs.{declared.status.Input.Input, declared.status.Status.Status}
use Rattle.wg_readings.specs.{Finding.IsOpenOn, Loading.Loads, Pairing.status_at}

-- ---- an error of an input

pub of_input : (i : Input) (e : LoadError) → IsOfInput i (status_at i e)
of_input i e = grind arith

pub caused_at : (told : Bool) (name : List ℕ) (files : Files) (old new : List ℕ → Counts) (h : HeldBytes) (i : Input) (e : LoadError) → HasReadCause told name files old new h e
    → (names : Input → Option (List ℕ)) → names i ≡ Some name → HasCause names no_outputs old new 0 0 (status_at i e)
caused_at told name files old new h i e cause names named = grind arith

by_file : (i : Input) (e : LoadError) (file : List ℕ) → e ≢ load.Absent → (e ≡ load.TooLong → MOST_BYTES < length file) → (next : List ℕ → Judged) → Answers (with_file i (Some file) next) (status_at i e)
by_file i e file h h2 next = grind arith

pub error_steps : (i : Input) (e : LoadError) (held : Option (List ℕ)) → (held ≡ None → e ≡ load.Absent) → ((file : List ℕ) → held ≡ Some file → (e ≢ load.Absent) × (e ≡ load.TooLong → MOST_BYTES < length file))
    → (next : List ℕ → Judged) → Answers (with_file i held next) (status_at i e)
error_steps i e held h h2 next = grind arith

-- ---- a file that is looked for

-- of which nothing is held
pub nothing_held : (file : List ℕ) (h : HeldBytes) → h ≡ record { bytes = []; first = 0; at = 0; ended = false; looked = false } → IsHeldOf file h
nothing_held file h is = subst (IsHeldOf file) (sym is) (record { before = []; behind = file; whole = refl; offset = refl; ended = λ e. absurd (cc e); short = λ e. absurd (cc e) })

-- it is not there, or too long, or was not read
pub not_found : (i : Input) (names : Input → Option (List ℕ)) (name : List ℕ) (told : Bool) (files files' : Files) (counts counts' : List ℕ → Counts) (h h' : HeldBytes) (e : LoadError) (s : Ending)
    → names i ≡ Some name → s.status ≡ status_at i e → h ≡ record { bytes = []; first = 0; at = 0; ended = false; looked = false }
    → StepsOn told name files files' counts counts' h h' → HasReadCause told name files counts counts' h e → (IsTrue told → map.get files name ≡ None → e ≡ load.Absent)
    → Loads names i told files files' counts counts' (Err s)
not_found i names name told files files' counts counts' h h' e s named is fresh steps cause none = record {
  steps = λ t next. subst (λ (x : Status). Answers (with_file i (held_by names files i) next) x) (sym is)
      (error_steps i e (held_by names files i) (λ absent. none t (sym here ∙ absent))
      (λ file there. (cause.there t file (sym here ∙ there), cause.long t file (sym here ∙ there) (nothing_held file h fresh))) next);
  held = λ t. tt;
  causes = subst (λ (x : Status). HasCause names no_outputs counts counts' 0 0 x) (sym is) (caused_at told name files counts counts' h i e cause names named);
  mine = subst (λ (x : Status). IsOfInput i x) (sym is) (of_input i e);
  same = steps.same;
  later = steps.later;
  short = tt;
}
  where
    here : held_by names files i ≡ map.get files name
    here = ap (λ (o : Option (List ℕ)). option_and_then (map.get files) o) named

-- it is
pub found_open : (files : Files) (name : List ℕ) (told : Bool) (files' : Files) (counts counts' : List ℕ → Counts) (h h' : HeldBytes) (found : (file : List ℕ) × (map.get files name ≡ Some file)) → IsTrue told
    → h ≡ record { bytes = []; first = 0; at = 0; ended = false; looked = false } → h'.looked ≡ true → StepsOn told name files files' counts counts' h h' → IsOpenOn (map.get files name) h'
found_open files name told files' counts counts' h h' found t fresh looked steps =
    let held = steps.in_step t found.0 found.1 (nothing_held found.0 h fresh) in
    record { file = found.0; is = found.1; short = held.short looked; held = held }
