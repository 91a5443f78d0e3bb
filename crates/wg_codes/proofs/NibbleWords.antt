use Rattle.std.proofs.Common.{◌≡◌, ℕ, zero, suc, ◌+◌, ◌-◌, ◌*◌, ◌/◌, ◌%◌, ◌^◌, ◌<◌, ◌≤◌, Bool, true, false, List, [], ◌∷◌, ◌++◌, length, refl, sym, ap, ◌∙◌, subst, ⊎_elim, inl, inr, ◌⊎◌, arith, length-append, append_assoc}
use Rattle.std.proofs.Math.Nat.{pow-suc, div-div-eq-div-mul}
use Rattle.std.proofs.Math.Numerals.{add-one}
use Rattle.std.proofs.Math.Pow.{pow_mono}
use Rattle.std.proofs.lemmas.Nat.{div_below, le-div}
use Rattle.std.proofs.lemmas.Bool.{cases_eq}
use Rattle.std.proofs.lemmas.List.{append-nil, append_cancel_left}
use Rattle.wg_bits.specs.Bits.{low_bits, Position, rest, moved}
use Rattle.wg_bits.proofs.LowBits.{length-low_bits, low_bits-above, low_bits-injective}
use Rattle.wg_codes.specs.declared.outcome.Read.TheVariants.{Value, Cut, NoWord}
use Rattle.wg_codes.specs.Reading.{Begins, ProperlyBegins, Reads}
use Rattle.wg_codes.specs.Words.{highest, nibble, digits}
use Rattle.wg_codes.proofs.Prefix.{cons_tail}
use Rattle.wg_codes.proofs.Highest.{highest_bounds, highest_zero, highest_below, between_powers, same_fronts, filled, filled_odd}

-- the low n digits of v, the highest first, none of them the last of its word
unfoldable pub open_digits : ℕ → ℕ → List Bool
open_digits zero v = []
open_digits (suc n) v = false ∷ (low_bits 3 (v / 8 ^ n) ++ open_digits n v)

eights_pos : (n : ℕ) → 0 < 8 ^ n
eights_pos zero = omega arith
eights_pos (suc n) = let p : 8 ^ suc n ≡ 8 ^ n * 8 = pow-suc 8 n in let h = eights_pos n in omega arith

pub eights : (n : ℕ) → 8 ^ n ≡ 2 ^ (3 * n)
eights zero = refl
eights (suc n) =
    let h = eights n in
    let all : 8 ^ suc n ≡ 2 ^ suc (suc (suc (3 * n))) = omega arith in
    all ∙ ap (λ m. 2 ^ m) (sym (omega arith))

up_digit : (n v t : ℕ) → t < 8 → (v * 8 + t) / 8 ^ suc n ≡ v / 8 ^ n
up_digit n v t l =
    let p : 8 ^ suc n ≡ 8 * 8 ^ n = omega (arith, pow-suc 8 n) in
    ap (λ m. (v * 8 + t) / m) p ∙ sym (div-div-eq-div-mul (v * 8 + t) 8 (8 ^ n)) ∙ ap (λ m. m / 8 ^ n) (omega arith)

-- a digit more at the end
pub open_more : (n v t : ℕ) → t < 8 → open_digits (suc n) (v * 8 + t) ≡ open_digits n v ++ (false ∷ low_bits 3 t)
unfolding open_digits
open_more zero v t l =
    let e : (v * 8 + t) / 8 ^ 0 ≡ v * 2 ^ 3 + t = omega arith in
    ap (λ m. false ∷ (low_bits 3 m ++ [])) e ∙ ap (λ z. false ∷ z) (append-nil (low_bits 3 (v * 2 ^ 3 + t)) ∙ low_bits-above 3 v t)
open_more (suc n) v t l =
    ap (λ m. false ∷ (low_bits 3 m ++ open_digits (suc n) (v * 8 + t))) (up_digit n v t l)
    ∙ ap (λ z. false ∷ (low_bits 3 (v / 8 ^ n) ++ z)) (open_more n v t l)
    ∙ ap (λ z. false ∷ z) (sym (append_assoc (low_bits 3 (v / 8 ^ n)) (open_digits n v) (false ∷ low_bits 3 t)))

-- all digits but the last, and the last
pub digits_last : (n v t : ℕ) → t < 8 → digits (suc n) (v * 8 + t) ≡ open_digits n v ++ (true ∷ low_bits 3 t)
unfolding digits open_digits
digits_last zero v t l = grind (arith, low_bits-above)
digits_last (suc n) v t l =
    ap (λ m. false ∷ (low_bits 3 m ++ digits (suc n) (v * 8 + t))) (up_digit n v t l)
    ∙ ap (λ z. false ∷ (low_bits 3 (v / 8 ^ n) ++ z)) (digits_last n v t l)
    ∙ ap (λ z. false ∷ z) (sym (append_assoc (low_bits 3 (v / 8 ^ n)) (open_digits n v) (true ∷ low_bits 3 t)))

-- a last digit is none of the open ones
pub open_close : (m d u v : ℕ) (x y : List Bool) → m ≤ d → open_digits m u ++ (true ∷ x) ≡ open_digits d v ++ (false ∷ y) → ⊥
unfolding open_digits
open_close zero zero u v x y l e = cc
open_close zero (suc d) u v x y l e = cc
open_close (suc m) zero u v x y l e = omega arith
open_close (suc m) (suc d) u v x y l e =
    let a : List Bool = low_bits 3 (u / 8 ^ m) in
    let b : List Bool = low_bits 3 (v / 8 ^ d) in
    let la : length (low_bits 3 (u / 8 ^ m)) ≡ 3 = length-low_bits 3 (u / 8 ^ m) in
    let lb : length (low_bits 3 (v / 8 ^ d)) ≡ 3 = length-low_bits 3 (v / 8 ^ d) in
    let f : (a ++ open_digits m u) ++ (true ∷ x) ≡ (b ++ open_digits d v) ++ (false ∷ y) = cons_tail false false _ _ e in
    let g : a ++ (open_digits m u ++ (true ∷ x)) ≡ b ++ (open_digits d v ++ (false ∷ y)) =
    sym (append_assoc a (open_digits m u) (true ∷ x)) ∙ f ∙ append_assoc b (open_digits d v) (false ∷ y) in
    let s : a ≡ b = same_fronts a b _ _ (la ∙ sym lb) g in
    open_close m d u v x y (omega arith) (append_cancel_left a (open_digits m u ++ (true ∷ x)) (open_digits d v ++ (false ∷ y)) (g ∙ ap (λ z. z ++ (open_digits d v ++ (false ∷ y))) (sym s)))

-- ---- the number of digits
abbrev pub IsFull : ℕ → ℕ → Type 0
IsFull n v = (v < 8 ^ suc n) × ((n ≡ 0) ⊎ (8 ^ n ≤ v))

-- v has n + 1 digits
pub count_is : (n v : ℕ) → n ≤ 20 → IsFull n v → highest v / 3 ≡ n
count_is n v few f =
    let p : 8 ^ suc n ≡ 2 ^ (3 * suc n) = eights (suc n) in
    let q : 8 ^ n ≡ 2 ^ (3 * n) = eights n in
    let s : suc (3 * suc n - 1) ≡ 3 * suc n = omega arith in
    let lv : v < 2 ^ suc (3 * suc n - 1) = subst (λ m. v < 2 ^ m) (sym s) (subst (λ m. v < m) p f.0) in
    ⊎_elim
    (λ (z : v ≡ 0). ⊎_elim
    (λ (e : n ≡ 0). let h : highest 0 ≡ 0 = highest_zero in ap (λ m. highest m / 3) z ∙ ap (λ m. m / 3) h ∙ sym e)
    (λ (g : 8 ^ n ≤ v). let pos = eights_pos n in absurd (omega arith))
    f.1)
    (λ ne.
    let most : highest v ≤ 3 * suc n - 1 = highest_below v (3 * suc n - 1) (omega arith) lv (omega arith) in
    let b = highest_bounds v (omega arith) (let big : 2 ^ suc (3 * suc n - 1) ≤ 2 ^ 64 = pow_mono (let t : suc (3 * suc n - 1) ≤ 64 = omega arith in t) in omega arith) in
    ⊎_elim
    (λ (e : n ≡ 0). omega arith)
    (λ (g : 8 ^ n ≤ v).
    let least : 3 * n ≤ highest v = between_powers v (3 * n) (highest v) (omega arith) b.1 in
    omega arith)
    f.1)
    (cases_eq v 0)

pub full_of : (v : ℕ) → v ≤ 2 ^ 63 - 1 → IsFull (highest v / 3) v × (highest v / 3 ≤ 20)
full_of v l = ⊎_elim
    (λ (z : v ≡ 0).
    let h : highest v ≡ 0 = ap highest z ∙ highest_zero in
    let e : highest v / 3 ≡ 0 = omega arith in
    let pos : 0 < 8 ^ suc (highest v / 3) = eights_pos (suc (highest v / 3)) in
    ((omega arith, inl e), omega arith))
    (λ ne.
    let b = highest_bounds v (omega arith) (omega arith) in
    let few : highest v ≤ 62 = highest_below v 62 (omega arith) (omega arith) (omega arith) in
    let p : 8 ^ suc (highest v / 3) ≡ 2 ^ (3 * suc (highest v / 3)) = eights (suc (highest v / 3)) in
    let q : 8 ^ (highest v / 3) ≡ 2 ^ (3 * (highest v / 3)) = eights (highest v / 3) in
    let up : 2 ^ suc (highest v) ≤ 2 ^ (3 * suc (highest v / 3)) = pow_mono (let t : suc (highest v) ≤ 3 * suc (highest v / 3) = omega arith in t) in
    let down : 2 ^ (3 * (highest v / 3)) ≤ 2 ^ highest v = pow_mono (let t : 3 * (highest v / 3) ≤ highest v = omega arith in t) in
    ((omega arith, inr (omega arith)), omega arith))
    (cases_eq v 0)

-- the word of a number of n + 1 digits
pub nibble_is : (n u t : ℕ) → n ≤ 20 → t < 8 → IsFull n (u * 8 + t) → nibble (u * 8 + t) ≡ open_digits n u ++ (true ∷ low_bits 3 t)
unfolding nibble
nibble_is n u t few l f =
    ap (λ m. digits (m + 1) (u * 8 + t)) (count_is n (u * 8 + t) few f) ∙ ap (λ m. digits m (u * 8 + t)) (add-one n) ∙ digits_last n u t l

-- ---- what no word begins with
none_from : (z : List Bool) → ((v : ℕ) (x y : List Bool) → v ≤ 2 ^ 63 - 1 → nibble v ++ x ≡ z ++ y → ⊥) → Reads nibble (2 ^ 63 - 1) z NoWord
none_from z apart v l = (
  (λ (b : Begins (nibble v) z). apart v b.0 [] l (sym (append-nil z ∙ b.1))),
  (λ (p : ProperlyBegins z (nibble v)). apart v [] p.0 l (append-nil (nibble v) ∙ p.2)),
)

-- a word by its open digits and its last
pub split_word : (v : ℕ) → v ≤ 2 ^ 63 - 1 → nibble v ≡ open_digits (highest v / 3) (v / 8) ++ (true ∷ low_bits 3 (v % 8))
split_word v l = grind (arith, full_of, nibble_is)

-- 21 open digits
pub too_many : (u : ℕ) (z y : List Bool) → z ≡ open_digits 20 u ++ (false ∷ y) → Reads nibble (2 ^ 63 - 1) z NoWord
too_many u z y e = none_from z (λ v x w l h.
    let open_v : List Bool = open_digits (highest v / 3) (v / 8) in
    let open_u : List Bool = open_digits 20 u in
    let left : open_v ++ (true ∷ (low_bits 3 (v % 8) ++ x)) ≡ nibble v ++ x =
    sym (append_assoc open_v (true ∷ low_bits 3 (v % 8)) x) ∙ ap (λ k. k ++ x) (sym (split_word v l)) in
    let right : z ++ w ≡ open_u ++ (false ∷ (y ++ w)) = ap (λ k. k ++ w) e ∙ append_assoc open_u (false ∷ y) w in
    open_close (highest v / 3) 20 (v / 8) u (low_bits 3 (v % 8) ++ x) (y ++ w) (full_of v l).1 (left ∙ h ∙ right))

pub first_digit : (n v : ℕ) (x y : List Bool) → IsFull n v
    → (open_digits n (v / 8) ++ (true ∷ low_bits 3 (v % 8))) ++ x ≡ false ∷ (low_bits 3 0 ++ y) → ⊥
unfolding open_digits
first_digit zero v x y f e = cc
first_digit (suc n) v x y f e =
    let a : List Bool = low_bits 3 (v / 8 / 8 ^ n) in
    let t : List Bool = open_digits n (v / 8) in
    let last : List Bool = true ∷ low_bits 3 (v % 8) in
    let g : ((low_bits 3 (v / 8 / 8 ^ n) ++ t) ++ last) ++ x ≡ low_bits 3 0 ++ y = cons_tail false false _ _ e in
    let h : low_bits 3 (v / 8 / 8 ^ n) ++ (t ++ (last ++ x)) ≡ low_bits 3 0 ++ y =
    sym (append_assoc a t (last ++ x)) ∙ sym (append_assoc (a ++ t) last x) ∙ g in
    let s : low_bits 3 (v / 8 / 8 ^ n) ≡ low_bits 3 0 = same_fronts a (low_bits 3 0) _ _ (length-low_bits 3 (v / 8 / 8 ^ n) ∙ sym (length-low_bits 3 0)) h in
    let p : 8 ^ suc n ≡ 8 * 8 ^ n = omega (arith, pow-suc 8 n) in
    let pos : 0 < 8 ^ suc n = eights_pos (suc n) in
    let d : v / 8 / 8 ^ n ≡ v / 8 ^ suc n = div-div-eq-div-mul v 8 (8 ^ n) ∙ ap (λ m. v / m) (sym p) in
    let most : v / 8 ^ suc n < 8 = div_below v (8 ^ suc n) 8 pos (omega (arith, f.0)) in
    let none : v / 8 / 8 ^ n ≡ 0 = low_bits-injective 3 (v / 8 / 8 ^ n) 0 (omega arith) (omega arith) s in
    ⊎_elim
    (λ (z : suc n ≡ 0). omega arith)
    (λ (low : 8 ^ suc n ≤ v). let least : 1 ≤ v / 8 ^ suc n = le-div 1 v (8 ^ suc n) pos (omega arith) in omega arith)
    f.1

-- a word's first digit is not zero, if it is not the last
pub zero_first : (z y : List Bool) → z ≡ false ∷ (low_bits 3 0 ++ y) → Reads nibble (2 ^ 63 - 1) z NoWord
unfolding open_digits
zero_first z y e = none_from z (λ v x w l h. first_digit (highest v / 3) v x (y ++ w) (full_of v l).0
    (ap (λ k. k ++ x) (sym (split_word v l)) ∙ h ∙ ap (λ k. k ++ w) e ∙ ap (λ k. false ∷ k) (append_assoc (low_bits 3 0) y w)))

-- ---- reading digit by digit: what d open digits have told
abbrev pub IsOpen : ℕ → ℕ → Type 0
IsOpen d u = (u < 8 ^ d) × ((d ≡ 0) ⊎ (8 ^ d ≤ u * 8))

pub open_none : IsOpen 0 0
open_none = (omega arith, inl refl)

pub full_from : (d u t : ℕ) → IsOpen d u → t < 8 → IsFull d (u * 8 + t)
full_from d u t o l = grind arith

pub open_next : (d u t : ℕ) → IsOpen d u → t < 8 → (u * 8 + t ≡ 0 → ⊥) → IsOpen (d + 1) (u * 8 + t)
open_next d u t o l some =
    let q : 8 ^ (d + 1) ≡ 8 ^ d * 8 = ap (λ m. 8 ^ m) (add-one d) ∙ pow-suc 8 d in
    let h : u < 8 ^ d = o.0 in (
      omega arith,
      ⊎_elim
          (λ (e : d ≡ 0). let one : 8 ^ d ≡ 1 = ap (λ m. 8 ^ m) e in inr (omega arith))
          (λ (g : 8 ^ d ≤ u * 8). inr (omega arith)) o.1,
    )

in_reach : (d v : ℕ) → d ≤ 20 → v < 8 ^ suc d → v ≤ 2 ^ 63 - 1
in_reach d v few l =
    let e : 8 ^ suc d ≡ 2 ^ (3 * suc d) = eights (suc d) in
    let p : 2 ^ (3 * suc d) ≤ 2 ^ 63 = pow_mono (let s : 3 * suc d ≤ 63 = omega arith in s) in
    omega arith

word_from : (d u t : ℕ) → d ≤ 20 → IsOpen d u → t < 8 → (nibble (u * 8 + t) ≡ open_digits d u ++ (true ∷ low_bits 3 t)) × (u * 8 + t ≤ 2 ^ 63 - 1)
word_from d u t few o l =
    let f = full_from d u t o l in
    (nibble_is d u t few l f, in_reach d (u * 8 + t) few f.0)

pub nibble_value : (d u t : ℕ) (z z1 z2 z3 : List Bool) (last : Bool) → d ≤ 20 → IsOpen d u → t < 8 → last ≡ true
    → z ≡ open_digits d u ++ z1 → z1 ≡ last ∷ z2 → z2 ≡ low_bits 3 t ++ z3 → Reads nibble (2 ^ 63 - 1) z (Value (u * 8 + t))
nibble_value d u t z z1 z2 z3 last few o l is e f g =
    let w = word_from d u t few o l in (
      w.1,
      (
        z3,
        e ∙ ap (λ x. open_digits d u ++ x) (f ∙ ap (λ b. b ∷ z2) is ∙ ap (λ x. true ∷ x) g)
            ∙ sym (append_assoc (open_digits d u) (true ∷ low_bits 3 t) z3) ∙ ap (λ x. x ++ z3) (sym w.0),
      ),
    )

-- the end where a marker should stand
pub nibble_cut : (d u : ℕ) (z z1 : List Bool) → d ≤ 20 → IsOpen d u → z ≡ open_digits d u ++ z1 → z1 ≡ [] → Reads nibble (2 ^ 63 - 1) z Cut
nibble_cut d u z z1 few o e f =
    let w = word_from d u 1 few o (omega arith) in
    let here : z ≡ open_digits d u = e ∙ ap (λ x. open_digits d u ++ x) f ∙ append-nil (open_digits d u) in
    (u * 8 + 1, w.1, (true ∷ low_bits 3 1, omega arith, w.0 ∙ ap (λ x. x ++ (true ∷ low_bits 3 1)) (sym here)))

-- the end within a digit
pub digit_cut : (d u : ℕ) (z z1 z2 : List Bool) (last : Bool) → d ≤ 20 → IsOpen d u → (last ≡ false → d ≤ 19)
    → z ≡ open_digits d u ++ z1 → z1 ≡ last ∷ z2 → length z2 < 3 → Reads nibble (2 ^ 63 - 1) z Cut
digit_cut d u z z1 z2 true few o more e f short =
    let t = filled z2 3 short in
    let w = word_from d u t.0 few o t.1 in
    let here : z ≡ open_digits d u ++ (true ∷ z2) = e ∙ ap (λ x. open_digits d u ++ x) f in (
      u * 8 + t.0,
      w.1,
      (
        t.2.0,
        t.2.1,
        w.0 ∙ ap (λ x. open_digits d u ++ (true ∷ x)) t.2.2 ∙ sym (append_assoc (open_digits d u) (true ∷ z2) t.2.0) ∙ ap (λ x. x ++ t.2.0) (sym here),
      ),
    )
digit_cut d u z z1 z2 false few o more e f short =
    let t = filled_odd z2 3 short in
    let o1 : IsOpen (d + 1) (u * 8 + t.0) = open_next d u t.0 o t.1 (λ z. omega arith) in
    let few1 : d ≤ 19 = more refl in
    let w = word_from (d + 1) (u * 8 + t.0) 0 (omega arith) o1 (omega arith) in
    let here : z ≡ open_digits d u ++ (false ∷ z2) = e ∙ ap (λ x. open_digits d u ++ x) f in
    let opened : open_digits (d + 1) (u * 8 + t.0) ≡ z ++ t.2.0 =
    ap (λ m. open_digits m (u * 8 + t.0)) (add-one d) ∙ open_more d u t.0 t.1 ∙ ap (λ x. open_digits d u ++ (false ∷ x)) t.2.2
    ∙ sym (append_assoc (open_digits d u) (false ∷ z2) t.2.0) ∙ ap (λ x. x ++ t.2.0) (sym here) in
    let longer : 0 < length (t.2.0 ++ (true ∷ low_bits 3 0)) = omega (arith, length-append t.2.0 (true ∷ low_bits 3 0), t.2.1) in (
      (u * 8 + t.0) * 8 + 0,
      w.1,
      (
        t.2.0 ++ (true ∷ low_bits 3 0),
        longer,
        w.0 ∙ ap (λ x. x ++ (true ∷ low_bits 3 0)) opened ∙ append_assoc z t.2.0 (true ∷ low_bits 3 0),
      ),
    )

-- one more open digit
pub open_step : (d u t : ℕ) (z z1 z2 z3 : List Bool) (last : Bool) → t < 8 → last ≡ false
    → z ≡ open_digits d u ++ z1 → z1 ≡ last ∷ z2 → z2 ≡ low_bits 3 t ++ z3 → z ≡ open_digits (d + 1) (u * 8 + t) ++ z3
open_step d u t z z1 z2 z3 last l is e f g =
    e ∙ ap (λ x. open_digits d u ++ x) (f ∙ ap (λ b. b ∷ z2) is ∙ ap (λ x. false ∷ x) g)
    ∙ sym (append_assoc (open_digits d u) (false ∷ low_bits 3 t) z3)
    ∙ ap (λ x. x ++ z3) (sym (open_more d u t l) ∙ ap (λ m. open_digits m (u * 8 + t)) (sym (add-one d)))

no_digits : (u : ℕ) (z : List Bool) → open_digits 0 u ++ z ≡ z
unfolding open_digits
no_digits u z = refl

-- a first digit of zero
pub zero_digit : (d u t : ℕ) (z z1 z2 z3 : List Bool) (last : Bool) → t < 8 → IsOpen d u → u * 8 + t ≡ 0 → last ≡ false
    → z ≡ open_digits d u ++ z1 → z1 ≡ last ∷ z2 → z2 ≡ low_bits 3 t ++ z3 → Reads nibble (2 ^ 63 - 1) z NoWord
zero_digit d u t z z1 z2 z3 last l o none is e f g =
    let d0 : d ≡ 0 = ⊎_elim (λ (x : d ≡ 0). x) (λ (x : 8 ^ d ≤ u * 8). absurd (omega arith)) o.1 in
    let t0 : t ≡ 0 = omega arith in
    zero_first z z3 (e ∙ ap (λ m. open_digits m u ++ z1) d0 ∙ no_digits u z1 ∙ f ∙ ap (λ b. b ∷ z2) is ∙ ap (λ x. false ∷ x) (g ∙ ap (λ m. low_bits 3 m ++ z3) t0))

pub last_digit_open : (d u : ℕ) (z z1 z2 : List Bool) (last : Bool) → d ≡ 20 → last ≡ false → z ≡ open_digits d u ++ z1 → z1 ≡ last ∷ z2 → Reads nibble (2 ^ 63 - 1) z NoWord
last_digit_open d u z z1 z2 last is_last is e f =
    too_many u z z2 (e ∙ ap (λ m. open_digits m u ++ z1) is_last ∙ ap (λ x. open_digits 20 u ++ x) (f ∙ ap (λ b. b ∷ z2) is))

pub length-open_digits : (n v : ℕ) → length (open_digits n v) ≡ 4 * n
unfolding open_digits
length-open_digits zero v = refl
length-open_digits (suc n) v =
    let a = length-append (low_bits 3 (v / 8 ^ n)) (open_digits n v) in
    let b = length-low_bits 3 (v / 8 ^ n) in
    let c = length-open_digits n v in
    let e : suc (length (low_bits 3 (v / 8 ^ n) ++ open_digits n v)) ≡ 4 * suc n = omega arith in e

-- the offset behind the last digit
pub nibble_place : (d u t : ℕ) (p q r s : Position) → d ≤ 20 → IsOpen d u → t < 8 → q ≡ moved p (4 * d) → r ≡ moved q 1 → s ≡ moved r 3 → s ≡ moved p (length (nibble (u * 8 + t)))
nibble_place d u t p q r s few o l e f g =
    let long : length (nibble (u * 8 + t)) ≡ 4 * d + 4 =
    ap length (word_from d u t few o l).0 ∙ length-append (open_digits d u) (true ∷ low_bits 3 t)
    ∙ (let a = length-open_digits d u in let b = length-low_bits 3 t in let k : length (open_digits d u) + suc (length (low_bits 3 t)) ≡ 4 * d + 4 = omega arith in k) in
    let sum : p.at + 4 * d + 1 + 3 ≡ p.at + length (nibble (u * 8 + t)) = omega arith in
    g ∙ ap (λ x. moved x 3) f ∙ ap (λ x. moved (moved x 1) 3) e ∙ ap (λ a. let x : Position = record { bits = p.bits; at = a } in x) sum

pub digit_place : (d : ℕ) (p q r s : Position) → q ≡ moved p (4 * d) → r ≡ moved q 1 → s ≡ moved r 3 → s ≡ moved p (4 * (d + 1))
digit_place d p q r s e f g = grind arith

pub value_small : (d u : ℕ) → d ≤ 20 → IsOpen d u → u < 2 ^ 60
value_small d u few o =
    let p : 2 ^ (3 * d) ≤ 2 ^ 60 = pow_mono (let s : 3 * d ≤ 60 = omega arith in s) in
    let e : 8 ^ d ≡ 2 ^ (3 * d) = eights d in
    omega arith

pub nothing_read : (p : Position) → rest p ≡ open_digits 0 0 ++ rest p
unfolding open_digits
nothing_read p = refl

pub nothing_moved : (p : Position) → p ≡ moved p 0
nothing_moved p = let e : p.at ≡ p.at + 0 = omega arith in ap (λ a. let x : Position = record { bits = p.bits; at = a } in x) e

pub nothing_open : (z : List Bool) → z ≡ open_digits 0 0 ++ z
unfolding open_digits
nothing_open z = refl
