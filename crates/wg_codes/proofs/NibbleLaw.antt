-- No word of nibble begins another.
use Rattle.std.proofs.Common.{◌≡◌, ℕ, zero, suc, ◌+◌, ◌-◌, ◌*◌, ◌/◌, ◌%◌, ◌^◌, ◌<◌, Bool, true, false, List, ◌∷◌, ◌++◌, length, sym, ap, ◌∙◌, subst, ⊎_elim, arith, append_assoc}
use Rattle.std.proofs.lemmas.Bool.{cases_order}
use Rattle.std.proofs.lemmas.List.{append_cancel_left}
use Rattle.wg_bits.specs.Bits.{low_bits}
use Rattle.wg_bits.proofs.LowBits.{length-low_bits, low_bits-injective}
use Rattle.wg_codes.specs.Words.{highest, nibble}
use Rattle.wg_codes.proofs.Prefix.{Free, cons_tail}
use Rattle.wg_codes.proofs.Highest.{same_fronts}
use Rattle.wg_codes.proofs.NibbleWords.{open_digits, open_more, full_of, length-open_digits, split_word}

-- ---- the law
open_shorter : (m d u v : ℕ) (x y : List Bool) → m < d → open_digits m u ++ (true ∷ x) ≡ open_digits d v ++ y → ⊥
unfolding open_digits
open_shorter zero zero u v x y l e = omega arith
open_shorter zero (suc d) u v x y l e = cc
open_shorter (suc m) zero u v x y l e = omega arith
open_shorter (suc m) (suc d) u v x y l e =
    let a : List Bool = low_bits 3 (u / 8 ^ m) in
    let b : List Bool = low_bits 3 (v / 8 ^ d) in
    let la : length (low_bits 3 (u / 8 ^ m)) ≡ 3 = length-low_bits 3 (u / 8 ^ m) in
    let lb : length (low_bits 3 (v / 8 ^ d)) ≡ 3 = length-low_bits 3 (v / 8 ^ d) in
    let f : (a ++ open_digits m u) ++ (true ∷ x) ≡ (b ++ open_digits d v) ++ y = cons_tail false false _ _ e in
    let g : a ++ (open_digits m u ++ (true ∷ x)) ≡ b ++ (open_digits d v ++ y) =
    sym (append_assoc a (open_digits m u) (true ∷ x)) ∙ f ∙ append_assoc b (open_digits d v) y in
    let s : a ≡ b = same_fronts a b _ _ (la ∙ sym lb) g in
    open_shorter m d u v x y (omega arith) (append_cancel_left a (open_digits m u ++ (true ∷ x)) (open_digits d v ++ y) (g ∙ ap (λ z. z ++ (open_digits d v ++ y)) (sym s)))

last_same : (f g p q : List Bool) (b : Bool) → length f ≡ length g → f ++ (b ∷ p) ≡ g ++ (b ∷ q) → (f ≡ g) × (p ≡ q)
last_same f g p q b l e = grind (arith, append_cancel_left, cons_tail, same_fronts)

open_injective : (n a b : ℕ) → a < 8 ^ n → b < 8 ^ n → open_digits n a ≡ open_digits n b → a ≡ b
open_injective zero a b la lb e = omega arith
open_injective (suc n) a b la lb e =
    let ea : a / 8 * 8 + a % 8 ≡ a = omega arith in
    let eb : b / 8 * 8 + b % 8 ≡ b = omega arith in
    let ra : a % 8 < 8 = omega arith in
    let rb : b % 8 < 8 = omega arith in
    let sa : open_digits (suc n) a ≡ open_digits n (a / 8) ++ (false ∷ low_bits 3 (a % 8)) = ap (open_digits (suc n)) (sym ea) ∙ open_more n (a / 8) (a % 8) ra in
    let sb : open_digits (suc n) b ≡ open_digits n (b / 8) ++ (false ∷ low_bits 3 (b % 8)) = ap (open_digits (suc n)) (sym eb) ∙ open_more n (b / 8) (b % 8) rb in
    let t = last_same (open_digits n (a / 8)) (open_digits n (b / 8)) (low_bits 3 (a % 8)) (low_bits 3 (b % 8)) false
    (length-open_digits n (a / 8) ∙ sym (length-open_digits n (b / 8))) (sym sa ∙ e ∙ sb) in
    let high : a / 8 ≡ b / 8 = open_injective n (a / 8) (b / 8) (omega arith) (omega arith) t.0 in
    let low : a % 8 ≡ b % 8 = low_bits-injective 3 (a % 8) (b % 8) (omega arith) (omega arith) t.1 in
    omega arith

same_count : (n a b : ℕ) (x y : List Bool) → a < 8 ^ suc n → b < 8 ^ suc n
    → open_digits n (a / 8) ++ (true ∷ (low_bits 3 (a % 8) ++ x)) ≡ open_digits n (b / 8) ++ (true ∷ (low_bits 3 (b % 8) ++ y)) → a ≡ b
same_count n a b x y la lb e =
    let t = last_same (open_digits n (a / 8)) (open_digits n (b / 8)) (low_bits 3 (a % 8) ++ x) (low_bits 3 (b % 8) ++ y) true
    (length-open_digits n (a / 8) ∙ sym (length-open_digits n (b / 8))) e in
    let s : low_bits 3 (a % 8) ≡ low_bits 3 (b % 8) =
    same_fronts (low_bits 3 (a % 8)) (low_bits 3 (b % 8)) x y (length-low_bits 3 (a % 8) ∙ sym (length-low_bits 3 (b % 8))) t.1 in
    let high : a / 8 ≡ b / 8 = open_injective n (a / 8) (b / 8) (omega arith) (omega arith) t.0 in
    let low : a % 8 ≡ b % 8 = low_bits-injective 3 (a % 8) (b % 8) (omega arith) (omega arith) s in
    omega arith

pub free_nibble : Free nibble (2 ^ 63 - 1)
free_nibble a b x y la lb e =
    let fa = full_of a la in
    let fb = full_of b lb in
    let sa : nibble a ++ x ≡ open_digits (highest a / 3) (a / 8) ++ (true ∷ (low_bits 3 (a % 8) ++ x)) =
    ap (λ k. k ++ x) (split_word a la) ∙ append_assoc (open_digits (highest a / 3) (a / 8)) (true ∷ low_bits 3 (a % 8)) x in
    let sb : nibble b ++ y ≡ open_digits (highest b / 3) (b / 8) ++ (true ∷ (low_bits 3 (b % 8) ++ y)) =
    ap (λ k. k ++ y) (split_word b lb) ∙ append_assoc (open_digits (highest b / 3) (b / 8)) (true ∷ low_bits 3 (b % 8)) y in
    let all : open_digits (highest a / 3) (a / 8) ++ (true ∷ (low_bits 3 (a % 8) ++ x)) ≡ open_digits (highest b / 3) (b / 8) ++ (true ∷ (low_bits 3 (b % 8) ++ y)) = sym sa ∙ e ∙ sb in
    ⊎_elim
    (λ (h : highest a / 3 ≡ highest b / 3).
    same_count (highest b / 3) a b x y (subst (λ m. a < 8 ^ suc m) h fa.0.0) fb.0.0
    (ap (λ m. open_digits m (a / 8) ++ (true ∷ (low_bits 3 (a % 8) ++ x))) (sym h) ∙ all))
    (λ other. ⊎_elim
    (λ (h : highest a / 3 < highest b / 3). absurd (open_shorter (highest a / 3) (highest b / 3) (a / 8) (b / 8) _ _ h all))
    (λ (h : highest b / 3 < highest a / 3). absurd (open_shorter (highest b / 3) (highest a / 3) (b / 8) (a / 8) _ _ h (sym all)))
    other)
    (cases_order (highest a / 3) (highest b / 3))
