use Rattle.std.proofs.Common.{◌≡◌, ℕ, suc, ◌+◌, ◌-◌, ◌*◌, ◌/◌, ◌%◌, ◌^◌, ◌<◌, ◌≤◌, Bool, true, List, ◌∷◌, ◌++◌, length, sym, ap, ◌∙◌, subst, arith, length-append}
use Rattle.std.proofs.Math.Pow.{pow_mono}
use Rattle.std.proofs.lemmas.Bool.{cond-true, cond-false, lt-ltb, le-ltb}
use Rattle.std.proofs.lemmas.Nat.{le-div}
use Rattle.wg_bits.specs.Bits.{low_bits}
use Rattle.wg_bits.proofs.LowBits.{length-low_bits}
use Rattle.wg_codes.specs.Words.{highest, unary, gamma, delta, zeta, nibble, shortened, with_low_bits}
use Rattle.wg_codes.proofs.UnaryWords.{length-unary}
use Rattle.wg_codes.proofs.ZetaWords.{zeta_top, headed_zeta, room, bounds_of, least_is}
use Rattle.wg_codes.proofs.Writing.{zeta_put}
use Rattle.wg_codes.proofs.NibbleWords.{open_digits, split_word, length-open_digits}

pub length-with_low_bits : (heads : ℕ → List Bool) (v m : ℕ) → m ≡ highest (v + 1) → length (with_low_bits heads v) ≡ length (heads m) + m
length-with_low_bits heads v m e =
    length-append (heads (highest (v + 1))) (low_bits (highest (v + 1)) (v + 1))
    ∙ ap (λ k. length (heads (highest (v + 1))) + k) (length-low_bits (highest (v + 1)) (v + 1))
    ∙ ap (λ k. length (heads k) + k) (sym e)

pub length-gamma : (v m : ℕ) → m ≡ highest (v + 1) → length (gamma v) ≡ 2 * m + 1
unfolding gamma
length-gamma v m e = length-with_low_bits unary v m e ∙ (let a = length-unary m in let s : length (unary m) + m ≡ 2 * m + 1 = omega arith in s)

pub length-delta : (v m : ℕ) → m ≡ highest (v + 1) → length (delta v) ≡ length (gamma m) + m
unfolding delta
length-delta v m e = length-with_low_bits gamma v m e

pub length-nibble : (v m : ℕ) → v ≤ 2 ^ 63 - 1 → m ≡ highest v → length (nibble v) ≡ 4 * (m / 3 + 1)
length-nibble v m l e =
    let a = length-open_digits (highest v / 3) (v / 8) in
    let b = length-low_bits 3 (v % 8) in
    let s : length (open_digits (highest v / 3) (v / 8)) + suc (length (low_bits 3 (v % 8))) ≡ 4 * (highest v / 3 + 1) = omega arith in
    ap length (split_word v l) ∙ length-append (open_digits (highest v / 3) (v / 8)) (true ∷ low_bits 3 (v % 8)) ∙ s ∙ ap (λ k. 4 * (k / 3 + 1)) (sym e)

pub head_room : (k v h : ℕ) → 1 ≤ k → k ≤ 31 → v ≤ zeta_top k → h ≡ highest (v + 1) / k → (h * k + k ≤ 63) × (2 ^ (h * k) ≤ v + 1) × (v + 1 < 2 ^ (h * k + k))
head_room k v h some few l e =
    let q : 1 ≤ 63 / k = le-div 1 63 k (omega arith) (omega arith) in
    let s = (headed_zeta k some few v l).1 in
    let b = bounds_of k v some few l in
    (room k h (omega arith), subst (λ m. 2 ^ (m * k) ≤ v + 1) (sym e) b.0, subst (λ m. v + 1 < 2 ^ (m * k + k)) (sym e) b.1)

pub length-zeta_short : (k v h : ℕ) → h ≡ highest (v + 1) / k → 1 ≤ k → v + 1 - 2 ^ (h * k) < 2 ^ (h * k) → length (zeta k v) ≡ h + 1 + (h * k + k) - 1
unfolding zeta
length-zeta_short k v h e some l =
    let t : length (shortened k h (v + 1)) ≡ h * k + k - 1 =
    ap length (cond-true _ _ _ (lt-ltb _ _ l)) ∙ length-low_bits (h * k + k - 1) (v + 1 - 2 ^ (h * k)) in
    let a = length-unary h in
    ap (λ m. length (unary m ++ shortened k m (v + 1))) (sym e) ∙ length-append (unary h) (shortened k h (v + 1))
    ∙ (let s : length (unary h) + length (shortened k h (v + 1)) ≡ h + 1 + (h * k + k) - 1 = omega arith in s)

pub length-zeta_long : (k v h : ℕ) → h ≡ highest (v + 1) / k → 2 ^ (h * k) ≤ v + 1 - 2 ^ (h * k) → length (zeta k v) ≡ h + 1 + (h * k + k)
unfolding zeta
length-zeta_long k v h e l =
    let t : length (shortened k h (v + 1)) ≡ h * k + k =
    ap length (cond-false _ _ _ (le-ltb _ _ l)) ∙ length-low_bits (h * k + k) (v + 1) in
    let a = length-unary h in
    ap (λ m. length (unary m ++ shortened k m (v + 1))) (sym e) ∙ length-append (unary h) (shortened k h (v + 1))
    ∙ (let s : length (unary h) + length (shortened k h (v + 1)) ≡ h + 1 + (h * k + k) = omega arith in s)

pub top_above : (k : ℕ) → 1 ≤ k → k ≤ 31 → (k * (63 / k) < 64) × (2 ≤ 2 ^ (k * (63 / k)))
top_above k some few =
    let b : 1 ≤ k * (63 / k) = omega arith in
    let p : 2 ^ 1 ≤ 2 ^ (k * (63 / k)) = pow_mono b in
    (omega arith, omega arith)

-- the field that zeta's writer puts behind a head: y - least in the short form, and y in the long one
abbrev pub IsField : ℕ → ℕ → ℕ → ℕ → Type 0
IsField k v h least = (least ≤ v + 1) × (h * k + k ≤ 63)
    × (v + 1 - least < least → (v + 1 - least < 2 ^ (h * k + k - 1)) × (unary h ++ low_bits (h * k + k - 1) (v + 1 - least) ≡ zeta k v))
    × (least ≤ v + 1 - least → (v + 1 < 2 ^ (h * k + k)) × (unary h ++ low_bits (h * k + k) (v + 1) ≡ zeta k v))

field_behind : (k v h least : ℕ) → 1 ≤ k → k ≤ 31 → v ≤ zeta_top k → h ≡ highest (v + 1) / k → least ≡ 2 ^ (h * k) → IsField k v h least
field_behind k v h least some few l e el =
    let r = head_room k v h some few l e in
    let narrow : 2 ^ (h * k) ≤ 2 ^ (h * k + k - 1) = pow_mono (let s : h * k ≤ h * k + k - 1 = omega arith in s) in
    let low : 2 ^ (h * k) ≤ v + 1 = r.1 in (
      omega arith,
      r.0,
      (λ less.
          let short : v + 1 - 2 ^ (h * k) < 2 ^ (h * k) = omega arith in
          let form : low_bits (h * k + k - 1) (v + 1 - least) ≡ shortened k h (v + 1) =
          ap (λ m. low_bits (h * k + k - 1) (v + 1 - m)) el ∙ sym (cond-true _ _ _ (lt-ltb _ _ short)) in
          (omega arith, zeta_put k v h _ e form)),
      (λ more.
          let long : 2 ^ (h * k) ≤ v + 1 - 2 ^ (h * k) = omega arith in
          (r.2, zeta_put k v h _ e (sym (cond-false _ _ _ (le-ltb _ _ long))))),
    )

-- the field of a zeta word, as the writer computes it: h is the index of the highest one, divided by k
pub zeta_field : (k v h : ℕ) → 1 ≤ k → k ≤ 31 → v ≤ zeta_top k → h ≡ highest (v + 1) / k → IsField k v h ((1 * 2 ^ (h * k)) % 2 ^ 64)
zeta_field k v h some few l eh = field_behind k v h _ some few l eh (least_is k h some (head_room k v h some few l eh).0)
