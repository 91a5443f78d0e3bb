use Rattle.std.proofs.Common.{◌≡◌, ℕ, zero, suc, ◌+◌, ◌-◌, ◌*◌, ◌/◌, ◌^◌, ◌<◌, ◌≤◌, max, Bool, true, false, ltb, inl, inr, List, ◌++◌, length, take, refl, sym, ap, ◌∙◌, subst, arith, length-append, suc-le-suc}
use Rattle.std.specs.Int.Count.{count_leading_zeros}
use Rattle.std.proofs.Math.Nat.{pow-suc}
use Rattle.std.proofs.Math.Numerals.{add-one}
use Rattle.std.proofs.Math.Pow.{pow_mono}
use Rattle.std.proofs.lemmas.Nat.{leading_top, pow_pos, shr_high, pow-add, shl_below, mul-le}
use Rattle.std.proofs.lemmas.Bool.{cases_Bool, cases_eq, cases_lt, lt-ltb, le-ltb}
use Rattle.std.proofs.lemmas.List.{take_at}
use Rattle.wg_bits.specs.Bits.{low_bits}
use Rattle.wg_bits.proofs.LowBits.{length-low_bits, low_bits-add, low_bits-above, low_bits-injective}
use Rattle.wg_bits.proofs.Numbers.{number_of, number_of-lt, low_bits-number_of}
use Rattle.wg_codes.specs.declared.outcome.Read.TheVariants.{Value, Cut, NoWord}
use Rattle.wg_codes.specs.Reading.{ProperlyBegins, Reads, after}
use Rattle.wg_codes.specs.Words.{first_where, highest, with_low_bits}
use Rattle.wg_codes.specs.Parts.{IsNumberAt}
use Rattle.wg_bits.specs.Bits.{Position, moved}
use Rattle.wg_codes.proofs.Prefix.{Free, Headed, free_headed, no_head, cut_head, cut_tail, value_tail}

-- ---- the first number that passes a test
pub first_is : (test : ℕ → Bool) (v k n : ℕ) → k ≤ v → v ≤ k + n → test v ≡ true → ((u : ℕ) → u < v → test u ≡ false) → first_where test k n ≡ v
unfolding first_where
first_is test v k zero le most here none = omega (arith, le, most)
first_is test v k (suc n) le most here none =
    elim (cases_eq k v) [
      | inl e ↦ rw (e, here) refl
      | inr ne ↦ rw (none k (omega arith)) (first_is test v (suc k) n (omega arith) (omega (arith, most)) here none)
    ]

first_most : (test : ℕ → Bool) (k n : ℕ) → first_where test k n ≤ k + n
unfolding first_where
first_most test k zero = omega arith
first_most test k (suc n) = elim (cases_Bool (test k)) [ inl e ↦ rw e (omega arith) | inr e ↦ rw e (omega (arith, first_most test (suc k) n)) ]

-- ---- the index of the highest one
pub highest_is : (y m : ℕ) → 2 ^ m ≤ y → y < 2 ^ suc m → m ≤ 63 → highest y ≡ m
unfolding highest
highest_is y m low high few =
    first_is (λ k. ltb y (2 ^ suc k)) m 0 63 (omega arith) (omega arith) (lt-ltb _ _ high)
    (λ u l. le-ltb y (2 ^ suc u) (let p : 2 ^ suc u ≤ 2 ^ m = pow_mono l in omega arith))

pub highest_small : (y : ℕ) → highest y ≤ 63
unfolding highest
highest_small y = first_most _ 0 63

pub highest_zero : highest 0 ≡ 0
unfolding highest first_where
highest_zero = refl

-- for a machine word it is what its leading zeros leave
zeros_left : (y : ℕ) → 0 < y → y < 2 ^ 64 → (63 - count_leading_zeros 64 y ≡ highest y) × (2 ^ highest y ≤ y) × (y < 2 ^ suc (highest y))
zeros_left y pos l =
    let t = leading_top 64 y pos l in
    let e : highest y ≡ t.0 = highest_is y t.0 t.2 t.3 (omega (arith, t.1)) in
    (omega (arith, e, t.1), subst (λ k. 2 ^ k ≤ y) (sym e) t.2, subst (λ k. y < 2 ^ suc k) (sym e) t.3)

pub highest_bounds : (y : ℕ) → 0 < y → y < 2 ^ 64 → (2 ^ highest y ≤ y) × (y < 2 ^ suc (highest y))
highest_bounds y pos l = let z = zeros_left y pos l in (z.1, z.2)

one_left : 63 - count_leading_zeros 64 1 ≡ 0
unfolding count_leading_zeros
one_left = refl

-- 0 has the index of 1
pub highest_of_max : (y m : ℕ) → y < 2 ^ 64 → m ≡ max y 1 → 63 - count_leading_zeros 64 m ≡ highest y
highest_of_max y m few e = grind (arith, cases_lt, highest_zero, zeros_left, one_left)

pub between_powers : (y i j : ℕ) → 2 ^ i ≤ y → y < 2 ^ suc j → i ≤ j
between_powers y i j l h = grind (arith, pow_mono, cases_lt)

-- a number below a power has its highest one below
pub highest_below : (y k : ℕ) → 0 < y → y < 2 ^ suc k → k ≤ 63 → highest y ≤ k
highest_below y k pos l few =
    let big : 2 ^ suc k ≤ 2 ^ 64 = pow_mono (suc-le-suc few) in
    between_powers y (highest y) k (highest_bounds y pos (omega arith)).0 l

-- ---- equal fronts
pub same_fronts : (a b x y : List Bool) → length a ≡ length b → a ++ x ≡ b ++ y → a ≡ b
same_fronts a b x y l e = sym (take_at a x (length a) refl) ∙ ap (take (length a)) e ∙ take_at b y (length a) (sym l)

-- fewer than k bits are the first of k bits of some number
pub filled : (z : List Bool) (k : ℕ) → length z < k → (t : ℕ) × (t < 2 ^ k) × ProperlyBegins z (low_bits k t)
filled z k l =
    let n : ℕ = length z in
    let sum : n + (k - n) ≡ k = omega arith in
    let t : ℕ = number_of z * 2 ^ (k - n) + 0 in
    let small : number_of z * 2 ^ (k - n) < 2 ^ k = subst (λ m. number_of z * 2 ^ (k - n) < 2 ^ m) sum (shl_below (number_of z) n (k - n) (number_of-lt z)) in
    let up : (number_of z * 2 ^ (k - n) + 0) / 2 ^ (k - n) ≡ number_of z = shr_high (number_of z) (k - n) 0 (pow_pos (k - n)) in
    let all : low_bits k t ≡ z ++ low_bits (k - n) t =
    ap (λ m. low_bits m t) (sym sum) ∙ low_bits-add n (k - n) t
    ∙ ap (λ m. low_bits n m ++ low_bits (k - n) t) up ∙ ap (λ y. y ++ low_bits (k - n) t) (low_bits-number_of z) in
    (t, omega arith, (low_bits (k - n) t, omega (arith, length-low_bits (k - n) t), all))

-- of a number that is not 0
pub filled_odd : (z : List Bool) (k : ℕ) → length z < k → (t : ℕ) × (t < 2 ^ k) × ProperlyBegins z (low_bits k t) × (0 < t)
filled_odd z k l =
    let n : ℕ = length z in
    let sum : n + (k - n) ≡ k = omega arith in
    let two : 2 ^ 1 ≤ 2 ^ (k - n) = pow_mono (let s : 1 ≤ k - n = omega arith in s) in
    let t : ℕ = number_of z * 2 ^ (k - n) + 1 in
    let up : (number_of z * 2 ^ (k - n) + 1) / 2 ^ (k - n) ≡ number_of z = shr_high (number_of z) (k - n) 1 (omega arith) in
    let whole : 2 ^ n * 2 ^ (k - n) ≡ 2 ^ k = sym (pow-add 2 n (k - n)) ∙ ap (λ m. 2 ^ m) sum in
    let small : (number_of z + 1) * 2 ^ (k - n) ≤ 2 ^ n * 2 ^ (k - n) = mul-le (number_of z + 1) (2 ^ (k - n)) (2 ^ n) (2 ^ (k - n)) (omega (arith, number_of-lt z)) (omega arith) in
    let all : low_bits k t ≡ z ++ low_bits (k - n) t =
    ap (λ m. low_bits m t) (sym sum) ∙ low_bits-add n (k - n) t
    ∙ ap (λ m. low_bits n m ++ low_bits (k - n) t) up ∙ ap (λ y. y ++ low_bits (k - n) t) (low_bits-number_of z) in
    (t, omega arith, (low_bits (k - n) t, omega (arith, length-low_bits (k - n) t), all), omega arith)

-- ---- words that end in the low bits of a number
abbrev pub low_tail : ℕ → List Bool
low_tail v = low_bits (highest (v + 1)) (v + 1)

abbrev pub place_of : ℕ → ℕ
place_of v = highest (v + 1)

-- the number whose highest one stands at m, with t below it
pub number_at : (m t : ℕ) → m ≤ 62 → t < 2 ^ m → (highest (2 ^ m - 1 + t + 1) ≡ m) × (low_bits m (2 ^ m - 1 + t + 1) ≡ low_bits m t) × (2 ^ m - 1 + t < 2 ^ (m + 1) - 1)
number_at m t few l =
    let p : 2 ^ suc m ≡ 2 ^ m * 2 = pow-suc 2 m in
    let q : 2 ^ (m + 1) ≡ 2 ^ m * 2 = ap (λ k. 2 ^ k) (add-one m) ∙ p in
    let e : 2 ^ m - 1 + t + 1 ≡ 1 * 2 ^ m + t = omega arith in
    (highest_is (2 ^ m - 1 + t + 1) m (omega arith) (omega arith) (omega arith), ap (low_bits m) e ∙ low_bits-above m 1 t, omega arith)

-- numbers with one index and the same low bits are equal
same_numbers : (y z m : ℕ) → 2 ^ m ≤ y → y < 2 ^ suc m → 2 ^ m ≤ z → z < 2 ^ suc m → low_bits m y ≡ low_bits m z → y ≡ z
same_numbers y z m ly hy lz hz e =
    let cy : y ≡ 1 * 2 ^ m + (y - 2 ^ m) = omega arith in
    let cz : z ≡ 1 * 2 ^ m + (z - 2 ^ m) = omega arith in
    let ey : low_bits m y ≡ low_bits m (y - 2 ^ m) = ap (low_bits m) cy ∙ low_bits-above m 1 (y - 2 ^ m) in
    let ez : low_bits m z ≡ low_bits m (z - 2 ^ m) = ap (low_bits m) cz ∙ low_bits-above m 1 (z - 2 ^ m) in
    let d : y - 2 ^ m ≡ z - 2 ^ m = low_bits-injective m (y - 2 ^ m) (z - 2 ^ m) (omega arith) (omega arith) (sym ey ∙ e ∙ ez) in
    omega arith

pub headed_low : (heads : ℕ → List Bool) (most_head : ℕ) → most_head ≤ 62
    → Headed (with_low_bits heads) heads low_tail place_of (2 ^ (most_head + 1) - 2) most_head
headed_low heads k few v l = grind (arith, add-one, pow_pos, highest_below)

pub free_low : (heads : ℕ → List Bool) (most_head : ℕ) → most_head ≤ 62 → Free heads most_head → Free (with_low_bits heads) (2 ^ (most_head + 1) - 2)
free_low heads k few free =
    free_headed (with_low_bits heads) heads low_tail place_of (2 ^ (k + 1) - 2) k (headed_low heads k few) free
    (λ v w x y lv lw h e.
    let big : 2 ^ (k + 1) ≤ 2 ^ 63 = pow_mono (let s : k + 1 ≤ 63 = omega arith in s) in
    let bv = highest_bounds (v + 1) (omega arith) (omega arith) in
    let bw = highest_bounds (w + 1) (omega arith) (omega arith) in
    let same_length : length (low_tail v) ≡ length (low_tail w) = length-low_bits (highest (v + 1)) (v + 1) ∙ h ∙ sym (length-low_bits (highest (w + 1)) (w + 1)) in
    let tails : low_tail v ≡ low_tail w = same_fronts (low_tail v) (low_tail w) x y same_length e in
    let tails_here : low_bits (highest (v + 1)) (v + 1) ≡ low_bits (highest (v + 1)) (w + 1) = tails ∙ ap (λ k. low_bits k (w + 1)) (sym h) in
    let same : v + 1 ≡ w + 1 = same_numbers (v + 1) (w + 1) (highest (v + 1)) bv.0 bv.1
    (subst (λ k. 2 ^ k ≤ w + 1) (sym h) bw.0) (subst (λ k. w + 1 < 2 ^ suc k) (sym h) bw.1) tails_here in
    omega arith)

-- ---- reading such words, when their heads have been read
below_all : (m k v : ℕ) → m ≤ k → v < 2 ^ (m + 1) - 1 → v ≤ 2 ^ (k + 1) - 2
below_all m k v l h = let p : 2 ^ (m + 1) ≤ 2 ^ (k + 1) = pow_mono (let s : m + 1 ≤ k + 1 = omega arith in s) in omega arith

pub low_head_cut : (heads : ℕ → List Bool) (k : ℕ) → k ≤ 62 → (z : List Bool) → Reads heads k z Cut → Reads (with_low_bits heads) (2 ^ (k + 1) - 2) z Cut
low_head_cut heads k few z c =
    let a : ℕ = c.0 in
    let n = number_at a 0 (omega (arith, c.1)) (pow_pos a) in
    cut_head (with_low_bits heads) heads low_tail place_of (2 ^ (k + 1) - 2) k (headed_low heads k few) z (2 ^ a - 1 + 0)
    (below_all a k (2 ^ a - 1 + 0) c.1 n.2)
    (subst (λ m. ProperlyBegins z (heads m)) (sym n.0) c.2)

pub low_head_none : (heads : ℕ → List Bool) (k : ℕ) → k ≤ 62 → (z : List Bool) → Reads heads k z NoWord → Reads (with_low_bits heads) (2 ^ (k + 1) - 2) z NoWord
low_head_none heads k few z none =
    no_head (with_low_bits heads) heads low_tail place_of (2 ^ (k + 1) - 2) k (headed_low heads k few) z none

pub low_cut : (heads : ℕ → List Bool) (k : ℕ) → k ≤ 62 → (z z1 : List Bool) (m : ℕ) → m ≤ k → z ≡ heads m ++ z1 → length z1 < m
    → Reads (with_low_bits heads) (2 ^ (k + 1) - 2) z Cut
low_cut heads k few z z1 m lm e short =
    let f = filled z1 m short in
    let t : ℕ = f.0 in
    let n = number_at m t (omega arith) f.1 in
    let v : ℕ = 2 ^ m - 1 + t in
    cut_tail (with_low_bits heads) heads low_tail place_of (2 ^ (k + 1) - 2) k (headed_low heads k few) z z1 v
    (below_all m k v lm n.2)
    (e ∙ ap (λ p. heads p ++ z1) (sym n.0))
    (f.2.0, f.2.1, (ap (λ p. low_bits p (v + 1)) n.0 ∙ n.1) ∙ f.2.2)

pub low_value : (heads : ℕ → List Bool) (k : ℕ) → k ≤ 62 → (z z1 z2 : List Bool) (m v : ℕ) → m ≤ k → z ≡ heads m ++ z1 → IsNumberAt m v z1 z2
    → Reads (with_low_bits heads) (2 ^ (k + 1) - 2) z (Value v)
low_value heads k few z z1 z2 m v lm e n =
    value_tail (with_low_bits heads) heads low_tail place_of (2 ^ (k + 1) - 2) k (headed_low heads k few) z z1 z2 v
    (below_all m k v lm n.below)
    (e ∙ ap (λ p. heads p ++ z1) (sym n.index))
    (n.bits ∙ ap (λ p. low_bits p (v + 1) ++ z2) (sym n.index))

pub low_place : (heads : ℕ → List Bool) (p q r : Position) (m v : ℕ) → q ≡ after heads p (Value m) → r ≡ moved q m → highest (v + 1) ≡ m
    → r ≡ moved p (length (with_low_bits heads v))
low_place heads p q r m v eq er h =
    let long : length (with_low_bits heads v) ≡ length (heads m) + m =
    ap (λ k. length (heads k ++ low_bits k (v + 1))) h ∙ length-append (heads m) (low_bits m (v + 1)) ∙ ap (λ n. length (heads m) + n) (length-low_bits m (v + 1)) in
    er ∙ ap (λ x. moved x m) eq ∙ ap (λ a. let x : Position = record { bits = p.bits; at = a } in x) (omega arith)

pub number_read : (m t : ℕ) (z1 z2 : List Bool) → m ≤ 62 → t < 2 ^ m → z1 ≡ low_bits m t ++ z2 → IsNumberAt m (2 ^ m - 1 + t) z1 z2
number_read m t z1 z2 few l e =
    let n = number_at m t few l in
    record { index = n.0; below = n.2; bits = e ∙ ap (λ z. z ++ z2) (sym n.1) }
