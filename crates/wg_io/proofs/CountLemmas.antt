-- Counts of refused calls.
use Rattle.std.proofs.Common.{◌≡◌, ◌∙◌, ◌⊎◌, inl, inr, ℕ, ◌-◌, ◌^◌, ◌<◌, List, Option, Result, Ok, Err, IsTrue, false, true≢false, sym, ap, arith}
use Rattle.std.proofs.Math.Nat.{eq-or-lt_of_le}
use Rattle.wg_outside.specs.Outside.{Counts, Increased, risen}
use Rattle.wg_outside.specs.Reads.{Reads}
use Rattle.wg_outside.specs.declared.depot.ReadError.{ReadError}
use Rattle.wg_outside.specs.declared.depot.WriteError.{WriteError}

-- one more has increased
has_risen : (a b : ℕ) → b ≡ risen a → Increased a b
has_risen a b is = at (eq-or-lt_of_le {n = b} {m = 2 ^ 64 - 1} (omega (arith, is)))
  where
    at : (b ≡ 2 ^ 64 - 1) ⊎ (b < 2 ^ 64 - 1) → Increased a b
    at (inl last) = inr (omega (arith, last))
    at (inr less) = inl (omega (arith, is, less))

-- a count that is held in a field, and went up by one
pub more_read_faults : (old held now : Counts) → held ≡ old → now ≡ record held { read_faults = risen held.read_faults } → Increased old.read_faults now.read_faults
more_read_faults old held now is one = has_risen _ _ (ap (λ (c : Counts). c.read_faults) one ∙ ap (λ (c : Counts). risen c.read_faults) is)

pub more_write_faults : (old held now : Counts) → held ≡ old → now ≡ record held { write_faults = risen held.write_faults } → Increased old.write_faults now.write_faults
more_write_faults old held now is one = has_risen _ _ (ap (λ (c : Counts). c.write_faults) one ∙ ap (λ (c : Counts). risen c.write_faults) is)

pub more_absences : (old held now : Counts) → held ≡ old → now ≡ record held { absences = risen held.absences } → Increased old.absences now.absences
more_absences old held now is one = has_risen _ _ (ap (λ (c : Counts). c.absences) one ∙ ap (λ (c : Counts). risen c.absences) is)

pub more_wants : (old held now : Counts) → held ≡ old → now ≡ record held { wants = risen held.wants } → Increased old.wants now.wants
more_wants old held now is one = has_risen _ _ (ap (λ (c : Counts). c.wants) one ∙ ap (λ (c : Counts). risen c.wants) is)

-- what an error is that is handed on; and a call that does not fail has none
pub read_error : {B : Type 0} (e f : ReadError) → ◌≡◌ {A = Result B ReadError} (Err e) (Err f) → e ≡ f
read_error e f is = cc is

pub write_error : {B : Type 0} (e f : WriteError) → ◌≡◌ {A = Result B WriteError} (Err e) (Err f) → e ≡ f
write_error e f is = cc is

pub no_error : {B E : Type 0} (b : B) (e : E) (from to : ℕ) → ◌≡◌ {A = Result B E} (Ok b) (Err e) → Increased from to
no_error b e from to is = absurd (cc is)

-- what a read of a depot that tells nothing says
pub no_read : (o : Option (List ℕ)) (at : ℕ) (buf : List ℕ) (r : Result ℕ ReadError) → IsTrue false → Reads o at buf r
no_read o at buf r told = absurd (true≢false (sym told))
