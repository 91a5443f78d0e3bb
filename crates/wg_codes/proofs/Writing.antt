use Rattle.std.proofs.Common.{◌≡◌, ℕ, suc, ◌+◌, ◌-◌, ◌*◌, ◌/◌, ◌^◌, ◌<◌, ◌≤◌, Bool, true, false, List, [], ◌∷◌, ◌++◌, refl, sym, ap, ◌∙◌, subst, arith, append_assoc}
use Rattle.std.proofs.Math.ListN.{replicate}
use Rattle.std.proofs.Math.Nat.{pow-suc, div-eq_of_lt}
use Rattle.std.proofs.Math.Numerals.{add-one}
use Rattle.std.proofs.Math.Pow.{pow_mono}
use Rattle.std.proofs.lemmas.Nat.{shr_high}
use Rattle.std.proofs.lemmas.List.{append-nil}
use Rattle.wg_bits.specs.Bits.{low_bits}
use Rattle.wg_bits.proofs.LowBits.{low_bits-add, low_bits-above, low_bits-zero}
use Rattle.wg_codes.specs.Words.{highest, unary, gamma, delta, zeta, shortened}
use Rattle.wg_codes.proofs.Highest.{highest_bounds, highest_below}

pub one_bit_one : low_bits 1 1 ≡ true ∷ []
unfolding low_bits
one_bit_one = refl

pub one_bit_zero : low_bits 1 0 ≡ false ∷ []
unfolding low_bits
one_bit_zero = refl

-- ---- a head, and a field with the head's one before it
marked_small : (n t : ℕ) → t < 2 ^ n → 2 ^ n + t < 2 ^ (n + 1)
marked_small n t l = let p : 2 ^ (n + 1) ≡ 2 ^ n * 2 = ap (λ m. 2 ^ m) (add-one n) ∙ pow-suc 2 n in omega arith

marked_field : (n t : ℕ) → t < 2 ^ n → low_bits (n + 1) (2 ^ n + t) ≡ true ∷ low_bits n t
marked_field n t l =
    let one : 2 ^ n + t ≡ 1 * 2 ^ n + t = omega arith in
    ap (λ k. low_bits k (2 ^ n + t)) (omega arith) ∙ low_bits-add 1 n (2 ^ n + t)
    ∙ ap (λ k. low_bits 1 k ++ low_bits n (2 ^ n + t)) (ap (λ k. k / 2 ^ n) one ∙ shr_high 1 n t l)
    ∙ ap (λ z. z ++ low_bits n (2 ^ n + t)) one_bit_one
    ∙ ap (λ z. true ∷ z) (ap (low_bits n) one ∙ low_bits-above n 1 t)

pub headed_in_two : (h n t m : ℕ) → t < 2 ^ n → m ≡ 2 ^ n + t → (replicate h false ++ low_bits (n + 1) m ≡ unary h ++ low_bits n t) × (m < 2 ^ (n + 1))
unfolding unary
headed_in_two h n t m l e = (
  ap (λ k. replicate h false ++ low_bits (n + 1) k) e ∙ ap (λ z. replicate h false ++ z) (marked_field n t l)
      ∙ sym (append_assoc (replicate h false) (true ∷ []) (low_bits n t)),
  subst (λ k. k < 2 ^ (n + 1)) (sym e) (marked_small n t l),
)

pub headed_in_one : (h n t m : ℕ) → t < 2 ^ n → m ≡ 2 ^ n + t → (low_bits (h + n + 1) m ≡ unary h ++ low_bits n t) × (m < 2 ^ (h + n + 1))
headed_in_one h n t m l e =
    let two = headed_in_two h n t m l e in
    let sum : h + n + 1 ≡ h + (n + 1) = omega arith in
    let up : 2 ^ (n + 1) ≤ 2 ^ (h + n + 1) = pow_mono (let s : n + 1 ≤ h + n + 1 = omega arith in s) in
    let small : m < 2 ^ (n + 1) = two.1 in (
      ap (λ k. low_bits k m) sum ∙ low_bits-add h (n + 1) m ∙ ap (λ k. low_bits h k ++ low_bits (n + 1) m) (div-eq_of_lt small)
          ∙ ap (λ z. z ++ low_bits (n + 1) m) (low_bits-zero h) ∙ two.0,
      omega arith,
    )

-- ---- the low bits below the highest one
pub field_of : (v m p : ℕ) → v ≤ 2 ^ 63 - 2 → m ≡ highest (v + 1) → p ≡ 2 ^ m
    → (p ≤ v + 1) × (v + 1 - p < 2 ^ m) × (m ≤ 62) × (low_bits m (v + 1 - p) ≡ low_bits (highest (v + 1)) (v + 1))
field_of v m p l e ep =
    let b = highest_bounds (v + 1) (omega arith) (omega arith) in
    let few : highest (v + 1) ≤ 62 = highest_below (v + 1) 62 (omega arith) (omega arith) (omega arith) in
    let low : 2 ^ m ≤ v + 1 = subst (λ k. 2 ^ k ≤ v + 1) (sym e) b.0 in
    let high : v + 1 < 2 ^ suc m = subst (λ k. v + 1 < 2 ^ suc k) (sym e) b.1 in
    let whole : 1 * 2 ^ m + (v + 1 - p) ≡ v + 1 = omega arith in
    (omega arith, omega arith, omega arith, sym (low_bits-above m 1 (v + 1 - p)) ∙ ap (low_bits m) whole ∙ ap (λ k. low_bits k (v + 1)) e)

pub gamma_put : (v m f : ℕ) → m ≡ highest (v + 1) → low_bits m f ≡ low_bits (highest (v + 1)) (v + 1) → unary m ++ low_bits m f ≡ gamma v
unfolding gamma
gamma_put v m f e b = ap (λ z. unary m ++ z) b ∙ ap (λ k. unary k ++ low_bits (highest (v + 1)) (v + 1)) e

pub delta_put : (v m f : ℕ) → m ≡ highest (v + 1) → low_bits m f ≡ low_bits (highest (v + 1)) (v + 1) → gamma m ++ low_bits m f ≡ delta v
unfolding delta
delta_put v m f e b = ap (λ z. gamma m ++ z) b ∙ ap (λ k. gamma k ++ low_bits (highest (v + 1)) (v + 1)) e

pub zeta_put : (k v h : ℕ) (f : List Bool) → h ≡ highest (v + 1) / k → f ≡ shortened k h (v + 1) → unary h ++ f ≡ zeta k v
unfolding zeta
zeta_put k v h f e b = ap (λ z. unary h ++ z) b ∙ ap (λ m. unary m ++ shortened k m (v + 1)) e

pub unary_put : (v : ℕ) → unary v ++ low_bits 0 0 ≡ unary v
unfolding low_bits
unary_put v = append-nil (unary v)
