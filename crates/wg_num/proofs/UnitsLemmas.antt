-- The digits of units, written from the last to the first.
use Rattle.std.proofs.Common.{ℕ, zero, suc, ◌≡◌, ◌+◌, ◌*◌, ◌/◌, ◌%◌, ◌^◌, ◌<◌, List, ◌∷◌, length, get_or, set, drop, ap, sym, refl, ◌++◌, ◌∙◌, arith}
use Rattle.std.proofs.Math.Nat.{div-div-eq-div-mul, pow-suc, pow-succ', one-le-pow, mul-add-div_right, mul-add-mod_self_right}
use Rattle.std.proofs.Math.Arith.{mod-mul}
use Rattle.std.proofs.lemmas.List.{drop-set, length-set}
use Rattle.std.proofs.lemmas.Nat.{pow-add, div-add-mod'}
use Rattle.wg_num.specs.declared.units.TheConstants.{UNITS}
use Rattle.wg_num.specs.Units.{last_digits, text_of_units}

-- the last k digits stand from the index on, and the rest is to be written
pub record AreWritten (v rest index : ℕ) (bytes : List ℕ) : Type 0 where
  pub left : (k : ℕ) → index + k ≡ length bytes → rest ≡ v / 10 ^ k
  pub digits : (k : ℕ) → index + k ≡ length bytes → drop index bytes ≡ last_digits k v

pub div_next : (v k : ℕ) → v / 10 ^ k / 10 ≡ v / 10 ^ suc k
div_next v k = div-div-eq-div-mul v (10 ^ k) 10 ∙ ap (λ p. v / p) (sym (pow-suc 10 k))

pub written_next : (v rest index : ℕ) (bytes : List ℕ) → index < length bytes → AreWritten v rest (index + 1) bytes
    → AreWritten v (rest / 10) index (set bytes index (48 + rest % 10))
written_next v rest index bytes within w = record {
  left = left;
  digits = digits;
}
  where
    size : length (set bytes index (48 + rest % 10)) ≡ length bytes
    size = length-set bytes index (48 + rest % 10)

    left : (k : ℕ) → index + k ≡ length (set bytes index (48 + rest % 10)) → rest / 10 ≡ v / 10 ^ k
    left zero e = absurd (omega (arith, size, e))
    left (suc k) e = ap (λ r. r / 10) (w.left k (omega (arith, size, e))) ∙ div_next v k

    digits : (k : ℕ) → index + k ≡ length (set bytes index (48 + rest % 10)) → drop index (set bytes index (48 + rest % 10)) ≡ last_digits k v
    digits zero e = absurd (omega (arith, size, e))
    digits (suc k) e =
        drop-set bytes index (48 + rest % 10) within
        ∙ ap (λ r. (48 + r % 10) ∷ drop (index + 1) bytes) (w.left k (omega (arith, size, e)))
        ∙ ap (λ l. (48 + v / 10 ^ k % 10) ∷ l) (w.digits k (omega (arith, size, e)))

same_digits : (k v w : ℕ) → last_digits k v ≡ last_digits k w → v % 10 ^ k ≡ w % 10 ^ k
same_digits zero v w e = omega arith
same_digits (suc k) v w e =
    let head : v / 10 ^ k % 10 ≡ w / 10 ^ k % 10 = omega (arith, ap (λ l. get_or l 0 0) e) in
    let tail : v % 10 ^ k ≡ w % 10 ^ k = same_digits k v w (ap (λ l. drop 1 l) e) in
    let some : 0 < 10 ^ k = one-le-pow k 10 (omega arith) in
    rw (pow-succ' 10 k) (mod-mul v {m = 10} {c = 10 ^ k} (omega arith) some ∙ (λ i. head i * 10 ^ k + tail i) ∙ sym (mod-mul w {m = 10} {c = 10 ^ k} (omega arith) some))

-- numbers of units with one text are one number
pub same_units : (v w : ℕ) → text_of_units v ≡ text_of_units w → v ≡ w
unfolding text_of_units
same_units v w e =
    let whole : v / UNITS ≡ w / UNITS = omega (arith, ap (λ l. get_or l 0 0) e) in
    omega (arith, whole, (same_digits 24 v w (ap (λ l. drop 2 l) e)))

-- a number has the last digits of what it leaves
pub last_after : (k w v : ℕ) → last_digits k (w * 10 ^ k + v) ≡ last_digits k v
last_after zero w v = refl
last_after (suc k) w v =
    let some : 0 < 10 ^ k = one-le-pow k 10 (omega arith) in
    let split : w * 10 ^ suc k + v ≡ w * 10 * 10 ^ k + v = omega (arith, ap (λ p. w * p) (pow-succ' 10 k)) in
    let digit : (w * 10 ^ suc k + v) / 10 ^ k % 10 ≡ v / 10 ^ k % 10 =
    ap (λ x. x / 10 ^ k % 10) split ∙ ap (λ x. x % 10) (mul-add-div_right {m = 10 ^ k} some (w * 10) v) ∙ mul-add-mod_self_right w 10 (v / 10 ^ k) in
    λ i. (48 + digit i) ∷ (ap (last_digits k) split ∙ last_after k (w * 10) v) i

-- the digits above the last k, and these
last_split : (j k v : ℕ) → last_digits (j + k) v ≡ last_digits j (v / 10 ^ k) ++ last_digits k v
last_split zero k v = let z : zero + k ≡ k = omega arith in rw z refl
last_split (suc j) k v =
    let n : suc j + k ≡ suc (j + k) = omega arith in
    let digit : v / 10 ^ (j + k) % 10 ≡ v / 10 ^ k / 10 ^ j % 10 =
    ap (λ p. v / p % 10) (ap (λ m. 10 ^ m) (omega arith) ∙ pow-add 10 k j) ∙ ap (λ x. x % 10) (sym (div-div-eq-div-mul v (10 ^ k) (10 ^ j))) in
    rw n (λ i. (48 + digit i) ∷ last_split j k v i)

-- the text of units is a digit, a point, and two halves of 12 digits
pub text_written : (v half half' : ℕ) (high low : List ℕ) → half ≡ 10 ^ 12 → half' ≡ 10 ^ 12 → high ≡ last_digits 12 (v / half) → low ≡ last_digits 12 (v % half')
    → (48 + v / half / 10 ^ 12) ∷ 46 ∷ (high ++ low) ≡ text_of_units v
unfolding text_of_units
text_written v half half' high low e e' h l =
    let whole : v / half / 10 ^ 12 ≡ v / UNITS = ap (λ d. v / d / 10 ^ 12) e ∙ omega arith in
    let part : low ≡ last_digits 12 v =
    l ∙ ap (λ d. last_digits 12 (v % d)) e' ∙ sym (last_after 12 (v / 10 ^ 12) (v % 10 ^ 12)) ∙ ap (last_digits 12) (div-add-mod' v (10 ^ 12)) in
    let rest : high ++ low ≡ last_digits 24 v =
    (λ i. h i ++ part i) ∙ ap (λ d. last_digits 12 (v / d) ++ last_digits 12 v) e ∙ sym (last_split 12 12 v) in
    λ i. (48 + whole i) ∷ 46 ∷ rest i
