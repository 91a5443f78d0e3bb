-- Numbers of up to nine digits, written three digits at a time.
use Rattle.std.proofs.Common.{◌≡◌, ℕ, zero, suc, ◌+◌, ◌-◌, ◌*◌, ◌/◌, ◌%◌, ◌^◌, ◌<◌, ◌≤◌, Bool, true, false, ◌&&◌, T, cond, eqb, leb, ltb, List, [], ◌∷◌, ◌++◌, length, get_or, set, take, refl, sym, subst, ◌∙◌, inl, inr, arith, append_assoc, length-set, eq-zero-or-pos, eqb→eq}
use Rattle.std.specs.Fmt.{decimal}
use Rattle.std.specs.Str.{bytes_eq}
use Rattle.std.proofs.lemmas.Bool.{leb-true}
use Rattle.std.proofs.lemmas.Fmt.{decimal_digit, decimal_step}
use Rattle.std.proofs.lemmas.Grind.{take-set_at}
use Rattle.std.proofs.lemmas.List.{take-append-le}
use Rattle.std.proofs.lemmas.Slice.Eq.{bytes_eq-Decides}
use lib.Ieee.Fits.{and_l, and_r}
use Rattle.itoa.proofs.Decimal.{decimal_two, decimal_pair}
use Rattle.wg_num.specs.declared.digits.TheConstants.{TRIPLES, LEADING}
use Rattle.wg_num.specs.Triples.{triple_digits}

abbrev are_triples : ℕ → Bool
are_triples zero = true
are_triples (suc p) =
    (eqb (get_or TRIPLES (p * 3) 0) (48 + p / 100)
    && (eqb (get_or TRIPLES (p * 3 + 1) 0) (48 + p / 10 % 10) && eqb (get_or TRIPLES (p * 3 + 2) 0) (48 + p % 10)))
    && are_triples p

triples_below : (n p : ℕ) → T (are_triples n) → p < n → (get_or TRIPLES (p * 3) 0 ≡ 48 + p / 100)
    × (get_or TRIPLES (p * 3 + 1) 0 ≡ 48 + p / 10 % 10) × (get_or TRIPLES (p * 3 + 2) 0 ≡ 48 + p % 10)
triples_below zero p t h = absurd (omega arith)
triples_below (suc n) p t h =
    elim (eq-zero-or-pos (n - p)) [
      | inl z ↦ let e : p ≡ n = omega arith in let a = and_l _ (are_triples n) t in
          let b = and_r _ _ a in rw e (eqb→eq _ _ (and_l _ _ a), eqb→eq _ _ (and_l _ _ b), eqb→eq _ _ (and_r _ _ b))
      | inr g ↦ triples_below n p (and_r _ (are_triples n) t) (omega arith)
    ]

pub triple_at : (p : ℕ) → p < 1000 → (get_or TRIPLES (p * 3) 0 ≡ 48 + p / 100)
    × (get_or TRIPLES (p * 3 + 1) 0 ≡ 48 + p / 10 % 10) × (get_or TRIPLES (p * 3 + 2) 0 ≡ 48 + p % 10)
triple_at p h = triples_below 1000 p tt h

-- three digits at a place
pub triple_stored : (buf : List ℕ) (at p hundreds tens ones : ℕ) → at + 3 ≤ length buf → hundreds ≡ 48 + p / 100
    → tens ≡ 48 + p / 10 % 10 → ones ≡ 48 + p % 10
    → take (at + 3) (set (set (set buf at hundreds) (at + 1) tens) (at + 2) ones) ≡ take at buf ++ triple_digits p
triple_stored buf at p hundreds tens ones room h t o =
    let third = take-set_at (set (set buf at hundreds) (at + 1) tens) (at + 2) (at + 3) ones (omega arith)
    (omega (arith, length-set buf at hundreds, length-set (set buf at hundreds) (at + 1) tens, room)) in
    let second = take-set_at (set buf at hundreds) (at + 1) (at + 2) tens (omega arith) (omega (arith, length-set buf at hundreds, room)) in
    let first = take-set_at buf at (at + 1) hundreds (omega arith) (omega (arith, room)) in
    rw (third, second, first, append_assoc, append_assoc, h, t, o)

-- the entry of a number below 1000: of its first three bytes so many are the number's digits as the fourth says
abbrev pub entry_digits : ℕ → List ℕ
entry_digits p =
    take (get_or LEADING (p * 4 + 3) 0 - 48) (get_or LEADING (p * 4) 0 ∷ get_or LEADING (p * 4 + 1) 0 ∷ get_or LEADING (p * 4 + 2) 0 ∷ [])

-- what these are
abbrev pub short_digits : ℕ → List ℕ
short_digits p =
    cond (ltb p 10) ((48 + p) ∷ []) (cond (ltb p 100) ((48 + p / 10) ∷ (48 + p % 10) ∷ []) (triple_digits p))

decimal_three : (p : ℕ) → 100 ≤ p → p < 1000 → triple_digits p ≡ decimal p
decimal_three p low high =
    let a : p / 10 / 10 ≡ p / 100 = omega arith in
    rw (decimal_step p (omega arith) (omega arith), decimal_two (p / 10) (omega arith) (omega arith), a)

short_is : (p : ℕ) → p < 1000 → short_digits p ≡ decimal p
short_is p h = grind (arith, decimal_digit, decimal_two, decimal_three)

is_true : (b : Bool) → T b → b ≡ true
is_true true t = refl
is_true false t = absurd t

abbrev is_entry : ℕ → Bool
is_entry p =
    bytes_eq (entry_digits p) (short_digits p) && (leb 48 (get_or LEADING (p * 4 + 3) 0) && leb (get_or LEADING (p * 4 + 3) 0) 51)

abbrev are_entries : ℕ → Bool
are_entries zero = true
are_entries (suc p) = is_entry p && are_entries p

entries_below : (n p : ℕ) → T (are_entries n) → p < n → T (is_entry p)
entries_below zero p t h = absurd (omega arith)
entries_below (suc n) p t h =
    elim (eq-zero-or-pos (n - p)) [
      | inl z ↦ let e : p ≡ n = omega arith in subst (λ k. T (is_entry k)) (sym e) (and_l _ (are_entries n) t)
      | inr g ↦ entries_below n p (and_r _ (are_entries n) t) (omega arith)
    ]

pub entry_at : (p : ℕ) → p < 1000 → (entry_digits p ≡ decimal p) × (48 ≤ get_or LEADING (p * 4 + 3) 0) × (get_or LEADING (p * 4 + 3) 0 ≤ 51)
entry_at p h =
    let t = entries_below 1000 p tt h in
    let b = and_r (bytes_eq (entry_digits p) (short_digits p)) _ t in (
      (bytes_eq-Decides (entry_digits p) (short_digits p)).0 (is_true _ (and_l _ (leb 48 (get_or LEADING (p * 4 + 3) 0) && leb (get_or LEADING (p * 4 + 3) 0) 51) t)) ∙ short_is p h,
      leb-true 48 _ (is_true _ (and_l _ (leb (get_or LEADING (p * 4 + 3) 0) 51) b)),
      leb-true _ 51 (is_true _ (and_r (leb 48 (get_or LEADING (p * 4 + 3) 0)) _ b)),
    )

-- four bytes at the front, of which up to three are wanted
pub entry_stored : (buf : List ℕ) (n a b c d : ℕ) → 4 ≤ length buf → n ≤ 3
    → take n (set (set (set (set buf 0 a) 1 b) 2 c) 3 d) ≡ take n (a ∷ b ∷ c ∷ [])
entry_stored (w ∷ x ∷ y ∷ z ∷ rest) n a b c d room few = take-append-le n (a ∷ b ∷ c ∷ []) (d ∷ rest) few
entry_stored (w ∷ x ∷ y ∷ []) n a b c d room few = absurd (omega (arith, room))
entry_stored (w ∷ x ∷ []) n a b c d room few = absurd (omega (arith, room))
entry_stored (w ∷ []) n a b c d room few = absurd (omega (arith, room))
entry_stored [] n a b c d room few = absurd (omega (arith, room))

-- a number, and three digits more
pub three_more : (v n : ℕ) (old new : List ℕ) → 1000 ≤ v → v < 2 ^ 64 → take n old ≡ decimal (v / 1000)
    → take (n + 3) new ≡ take n old ++ triple_digits (v % 1000) → take (n + 3) new ≡ decimal v
three_more v n old new some small high low =
    let a : v / 10 / 100 ≡ v / 1000 = omega arith in
    let b : v / 10 % 100 / 10 ≡ v % 1000 / 100 = omega arith in
    let c : v / 10 % 100 % 10 ≡ v % 1000 / 10 % 10 = omega arith in
    let d : v % 10 ≡ v % 1000 % 10 = omega arith in
    rw (low, high, decimal_step v (omega arith) small, decimal_pair (v / 10) (omega arith) (omega arith), append_assoc, a, b, c, d)
