-- What a certificate's text claims is within the limits, and of as many pages as are asked for.
use Rattle.std.proofs.Common.{◌≡◌, ◌∙◌, ◌≤◌, ◌+◌, ℕ, zero, suc, List, [], ◌∷◌, length, drop, Option, Result, Ok, Err, sym, ap, arith}
use Rattle.wg_num.specs.{Lines.lines_of, Units.units_of}
use Rattle.wg_params.specs.declared.limits.TheConstants.{MOST_DAMPING}
use Rattle.wg_rank.specs.{Claims.Claim, declared.fault.CertFault.CertFault}
use Rattle.wg_rank.specs.CertificateText.{and_then, at_most, before, bounds_of, claim_of, claimed, damping_of, or_fault, pages_of}
use Rattle.wg_rank.specs.declared.fault.CertFault.TheVariants as fault
use Rattle.wg_rank.specs.declared.fault.CertKind.TheVariants as kind

abbrev pub right : {A : Type 0} → A → Result A CertFault
right x = Ok x

abbrev wrong : {A : Type 0} → CertFault → Result A CertFault
wrong f = Err f

never_right : {A : Type 0} (f : CertFault) (x : A) → wrong {A = A} f ≡ right x → ⊥
never_right f x is = cc is

same_right : {A : Type 0} (x y : A) → right x ≡ right y → x ≡ y
same_right x y is = cc is

-- what went on was Ok
ok_behind : {A B : Type 0} (r : Result A CertFault) (f : A → Result B CertFault) (b : B) → and_then r f ≡ right b → (a : A) × (r ≡ right a) × (f a ≡ right b)
ok_behind r f b h = grind arith

module _ (a : ℕ) where
  small : (o : Option ℕ) → or_fault 1 kind.Shape (at_most MOST_DAMPING o) ≡ right a → a ≤ MOST_DAMPING
  small o h = grind arith

  damped : (lines : List (List ℕ)) → damping_of lines ≡ right a → a ≤ MOST_DAMPING
  damped lines h = grind (arith, never_right, small)

-- a bound for each page
as_many : (number n : ℕ) (lines : List (List ℕ)) (low : List ℕ) → bounds_of number n lines ≡ right low → length low ≡ n
as_many number zero [] low is = grind (arith, right)
as_many number zero (line ∷ lines) low is = absurd (never_right (fault.Line number kind.Extra) low is)
as_many number (suc n) [] low is = absurd (never_right (fault.Line number kind.Missing) low is)
as_many number (suc n) (line ∷ lines) low is =
    let first = ok_behind (or_fault number kind.Shape (units_of line)) (λ x. before x (bounds_of (number + 1) n lines)) low is in
    let rest = ok_behind (bounds_of (number + 1) n lines) (λ xs. right (first.0 ∷ xs)) low first.2 in
    ap length (sym (same_right (first.0 ∷ rest.0) low rest.2)) ∙ ap suc (as_many (number + 1) n lines rest.0 rest.1)

is_claimed : (a : ℕ) (low : List ℕ) (c : Claim) → claimed a low ≡ right c → (c.damping ≡ a) × (c.low ≡ low)
is_claimed a low c is = grind arith

pub claim_within : (n : ℕ) (bytes : List ℕ) (c : Claim) → claim_of n bytes ≡ right c → (c.damping ≤ MOST_DAMPING) × (length c.low ≡ n)
unfolding claim_of
claim_within n bytes c is =
    let lines = lines_of bytes in
    let a = ok_behind (damping_of lines) _ c is in
    let pages = ok_behind (pages_of n (drop 1 lines)) _ c a.2 in
    let low = ok_behind (bounds_of 3 n (drop 2 lines)) (λ x. claimed a.0 x) c pages.2 in
    let claim = is_claimed a.0 low.0 c low.2 in
    (omega (arith, claim.0, damped a.0 lines a.1), ap length claim.1 ∙ as_many 3 n (drop 2 lines) low.0 low.1)
