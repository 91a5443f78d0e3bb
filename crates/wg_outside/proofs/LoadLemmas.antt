-- What the reads of a file that is read whole say of it.
use Rattle.std.proofs.Common.{◌≡◌, ◌≢◌, ℕ, ◌+◌, ◌<◌, ◌≤◌, List, refl, sym, subst, arith, length-drop, Option, Some, None, Result, Ok, Err}
use Rattle.std.specs.Result.{IsErrOf}
use Rattle.wg_outside.specs.declared.limits.TheConstants.{MOST_BYTES}
use Rattle.wg_outside.specs.Outside.{Increased}
use Rattle.wg_outside.specs.Reads.{Reads, Loads, load_error}
use Rattle.wg_outside.proofs.PutsLemmas.{rose_on}
use Rattle.wg_outside.specs.declared.depot.ReadError.{ReadError}
use Rattle.wg_outside.specs.declared.depot.ReadError.TheVariants as read
use Rattle.wg_outside.specs.declared.whole.LoadError.{LoadError}
use Rattle.wg_outside.specs.declared.whole.LoadError.TheVariants as load

-- which error of a read an error that was handed on was
pub was_absent : {B C : Type 0} (r : Result B LoadError) (s : Result C ReadError) (q : ReadError) → s ≡ Err q → r ≡ Err (load_error q) → IsErrOf r load.Absent → IsErrOf s read.Absent
was_absent r s read.Failed that is e = absurd (cc (is, e))
was_absent r s read.Absent that is e = that
was_absent r s read.Memory that is e = absurd (cc (is, e))

pub was_failed : {B C : Type 0} (r : Result B LoadError) (s : Result C ReadError) (q : ReadError) → s ≡ Err q → r ≡ Err (load_error q) → IsErrOf r load.Failed → IsErrOf s read.Failed
was_failed r s read.Failed that is e = that
was_failed r s read.Absent that is e = absurd (cc (is, e))
was_failed r s read.Memory that is e = absurd (cc (is, e))

-- a read that failed
unread_as : (o : Option (List ℕ)) (at : ℕ) (buf : List ℕ) (q : ReadError) → Reads o at buf (Err q) → Loads o (Err (load_error q))
unread_as None at buf read.Failed t = absurd (cc (t))
unread_as None at buf read.Absent t = refl
unread_as None at buf read.Memory t = absurd (cc (t))
unread_as (Some file) at buf read.Failed t = (λ e. cc (e), λ e. absurd (cc (e)))
unread_as (Some file) at buf read.Absent t = absurd (t refl)
unread_as (Some file) at buf read.Memory t = (λ e. cc (e), λ e. absurd (cc (e)))

pub unread : (o : Option (List ℕ)) (at : ℕ) (buf : List ℕ) (q : ReadError) (r : Result (List ℕ) LoadError) → r ≡ Err (load_error q) → Reads o at buf (Err q) → Loads o r
unread o at buf q r is t = subst (λ (x : Result (List ℕ) LoadError). Loads o x) (sym is) (unread_as o at buf q t)

-- no memory for a piece of a file that is there
unheld_as : (o : Option (List ℕ)) (at : ℕ) (buf : List ℕ) (count : ℕ) → Reads o at buf (Ok count) → Loads o (Err load.Memory)
unheld_as None at buf count t = absurd (cc (t))
unheld_as (Some file) at buf count t = (λ e. cc (e), λ e. absurd (cc (e)))

pub unheld : (o : Option (List ℕ)) (at : ℕ) (buf : List ℕ) (count : ℕ) (r : Result (List ℕ) LoadError) → r ≡ Err load.Memory → Reads o at buf (Ok count) → Loads o r
unheld o at buf count r is t = subst (λ (x : Result (List ℕ) LoadError). Loads o x) (sym is) (unheld_as o at buf count t)

-- bytes past the limit
pub past_limit : (o : Option (List ℕ)) (at : ℕ) (buf : List ℕ) (count : ℕ) → Reads o at buf (Ok count) → count ≢ 0 → MOST_BYTES < at + count → Loads o (Err load.TooLong)
past_limit None at buf count t some more = absurd (cc (t))
past_limit (Some file) at buf count t some more = (λ e. cc (e), λ e. omega (arith, t.within, length-drop at file))

-- one answer is no error, and running out of memory and a file that is too long are no faults of a depot
pub no_error : {A : Type 0} (e : LoadError) (a : A) → ◌≡◌ {A = Result A LoadError} (Ok a) (Err e) → ⊥
no_error e a is = cc is

pub held_not_absent : {A : Type 0} → ◌≡◌ {A = Result A LoadError} (Err load.Memory) (Err load.Absent) → ⊥
held_not_absent is = cc is

pub held_not_failed : {A : Type 0} → ◌≡◌ {A = Result A LoadError} (Err load.Memory) (Err load.Failed) → ⊥
held_not_failed is = cc is

pub long_not_absent : {A : Type 0} → ◌≡◌ {A = Result A LoadError} (Err load.TooLong) (Err load.Absent) → ⊥
long_not_absent is = cc is

pub long_not_failed : {A : Type 0} → ◌≡◌ {A = Result A LoadError} (Err load.TooLong) (Err load.Failed) → ⊥
long_not_failed is = cc is

-- no count rises in a case that does not come, and what rose in a later call has risen
pub no_rise : (a b : ℕ) → ⊥ → Increased a b
no_rise a b bad = absurd bad

pub risen : (a b c : ℕ) → a ≤ b → Increased b c → Increased a c
risen a b c le up = rose_on a b c c le up (omega arith)
