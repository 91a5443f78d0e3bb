-- Sums in four lanes of 64 bits, modulo 2^64.
use Rattle.std.specs.List.{sum_by}
use Rattle.std.specs.Simd.Lanes.{zip2}
use Rattle.std.proofs.Common.{ℕ, zero, suc, ◌≡◌, ◌+◌, ◌-◌, ◌*◌, ◌/◌, ◌%◌, ◌^◌, ◌<◌, ◌≤◌, List, [], ◌∷◌, length, get_or, refl, ap, arith}
use Rattle.std.proofs.lemmas.List.Sums.{sum_by-cons}
use Rattle.wg_params.specs.declared.limits.TheConstants.{MOST_PAGES}
use Rattle.wg_rank.specs.Sum.{sum_below}
use Rattle.wg_rank.specs.Lanes.{low_bits, high_bits, in_lanes, AreSummed}
use Rattle.wg_rank.specs.declared.limits.TheConstants.{UNITS}
use Rattle.wg_rank.proofs.Sums.{sum_le, sum_const, sum_front}

-- ---- numbers modulo 2^64

wrapped_sum : (a b : ℕ) → (a % 2 ^ 64 + b % 2 ^ 64) % 2 ^ 64 ≡ (a + b) % 2 ^ 64
wrapped_sum a b = omega arith

wrapped_difference : (a b : ℕ) → a ≤ b → (b % 2 ^ 64 + (2 ^ 64 - a % 2 ^ 64)) % 2 ^ 64 ≡ (b - a) % 2 ^ 64
wrapped_difference a b h = omega arith

pub parts_join : (x : ℕ) → x % 2 ^ 40 + x / 2 ^ 40 * 2 ^ 40 ≡ x
parts_join x = omega arith

-- ---- four lanes at once

four : (a b c d e f g h : ℕ) → a ≡ e → b ≡ f → c ≡ g → d ≡ h → (a ∷ b ∷ c ∷ d ∷ []) ≡ (e ∷ f ∷ g ∷ h ∷ [])
four a b c d e f g h p q r s = rw (p, q, r, s) refl

pub lanes_same : (f g : (ℕ → ℕ) → ℕ) (low high : ℕ → ℕ) → ((s : ℕ → ℕ) → f s ≡ g s) → in_lanes f low high ≡ in_lanes g low high
lanes_same f g low high e = grind arith

pub lanes_sum : (f g : (ℕ → ℕ) → ℕ) (low high : ℕ → ℕ)
    → zip2 (λ (a b : ℕ). (a + b) % 2 ^ 64) (in_lanes f low high) (in_lanes g low high) ≡ in_lanes (λ s. f s + g s) low high
lanes_sum f g low high = four _ _ _ _ _ _ _ _ (wrapped_sum _ _) (wrapped_sum _ _) (wrapped_sum _ _) (wrapped_sum _ _)

pub lanes_difference : (f g : (ℕ → ℕ) → ℕ) (low high : ℕ → ℕ) → ((s : ℕ → ℕ) → g s ≤ f s)
    → zip2 (λ (a b : ℕ). (a + (2 ^ 64 - b)) % 2 ^ 64) (in_lanes f low high) (in_lanes g low high) ≡ in_lanes (λ s. f s - g s) low high
lanes_difference f g low high h =
    four _ _ _ _ _ _ _ _ (wrapped_difference _ _ (h _)) (wrapped_difference _ _ (h _)) (wrapped_difference _ _ (h _)) (wrapped_difference _ _ (h _))

-- what one page gives, at most 1, fits its lanes
pub lanes_of_page : (low high : ℕ → ℕ) (u x y : ℕ) → x ≡ low u → y ≡ high u → x ≤ UNITS → y ≤ UNITS
    → (x % 2 ^ 40 ∷ x / 2 ^ 40 ∷ y % 2 ^ 40 ∷ y / 2 ^ 40 ∷ []) ≡ in_lanes (λ s. s u) low high
lanes_of_page low high u x y d e h k = four _ _ _ _ _ _ _ _ (omega (arith, d)) (omega (arith, d)) (omega (arith, e)) (omega (arith, e))

-- if a page gives nothing, the sums stay
pub lanes_none : (low high : ℕ → ℕ) (u : ℕ) → low u ≡ 0 → high u ≡ 0 → in_lanes (sum_below u) low high ≡ in_lanes (sum_below (suc u)) low high
lanes_none low high u d e = four _ _ _ _ _ _ _ _ (omega (arith, d)) (omega (arith, d)) (omega (arith, e)) (omega (arith, e))

-- ---- sums up to 2^24 numbers

pub low_bits_small : (s : ℕ → ℕ) (u : ℕ) → low_bits s u ≤ 2 ^ 40 - 1
low_bits_small s u = omega arith

pub high_bits_small : (s : ℕ → ℕ) (u : ℕ) → s u ≤ UNITS → high_bits s u ≤ 2 ^ 40 - 1
high_bits_small s u h = omega arith

-- the sums of both parts make the sum
sum_joins : (n : ℕ) (s : ℕ → ℕ) → sum_below n (low_bits s) + sum_below n (high_bits s) * 2 ^ 40 ≡ sum_below n s
sum_joins zero s = refl
sum_joins (suc n) s = omega (arith, sum_joins n s, parts_join (s n))

-- k numbers more
more_small : (t : ℕ → ℕ) (a k m : ℕ) → ((u : ℕ) → u < a + k → t u ≤ m) → sum_below (a + k) t ≤ sum_below a t + k * m
more_small t a zero m h = grind arith
more_small t a (suc k) m h =
    let e : sum_below (a + suc k) t ≡ sum_below (suc (a + k)) t = ap (λ (i : ℕ). sum_below i t) {y = suc (a + k)} (omega arith) in
    omega (arith, e, more_small t a k m (λ u w. h u (omega arith)), h (a + k) (omega arith))

-- if both parts of a sum grow by at most 2^40 for each of at most 2^24 numbers, nothing is lost in lanes
growth_joins : (x y p q k s t : ℕ) → p ≤ x → q ≤ y → x ≤ p + k * (2 ^ 40 - 1) → y ≤ q + k * (2 ^ 40 - 1) → k ≤ 2 ^ 24
    → p + q * 2 ^ 40 ≡ s → x + y * 2 ^ 40 ≡ t → s + ((x - p) % 2 ^ 64 + (y - q) % 2 ^ 64 * 2 ^ 40) ≡ t
growth_joins x y p q k s t h1 h2 h3 h4 h5 e f = omega arith

-- between two places that are at most 2^24 pages apart nothing is lost in lanes
pub rise_joins : (s : ℕ → ℕ) (a b : ℕ) → a ≤ b → b ≤ a + 2 ^ 24 → ((u : ℕ) → u < b → s u ≤ UNITS)
    → sum_below a s + ((sum_below b (low_bits s) - sum_below a (low_bits s)) % 2 ^ 64
    + (sum_below b (high_bits s) - sum_below a (high_bits s)) % 2 ^ 64 * 2 ^ 40) ≡ sum_below b s
rise_joins s a b le near small =
    let e : a + (b - a) ≡ b = omega arith in
    let lows : sum_below b (low_bits s) ≤ sum_below a (low_bits s) + (b - a) * (2 ^ 40 - 1) =
    rw e at (more_small (low_bits s) a (b - a) (2 ^ 40 - 1) (λ u w. low_bits_small s u)) in
    let highs : sum_below b (high_bits s) ≤ sum_below a (high_bits s) + (b - a) * (2 ^ 40 - 1) =
    rw e at (more_small (high_bits s) a (b - a) (2 ^ 40 - 1) (λ u w. high_bits_small s u (small u (omega arith)))) in
    growth_joins _ _ _ _ (b - a) _ _ (sum_front b a (low_bits s) le) (sum_front b a (high_bits s) le) lows highs (omega arith) (sum_joins a s) (sum_joins b s)

-- no more than 1 for each page
pub sum_small : (s : ℕ → ℕ) (n : ℕ) → ((u : ℕ) → u < n → s u ≤ UNITS) → sum_below n s ≤ n * UNITS
sum_small s n h = omega (arith, sum_le n s (λ _. UNITS) h, sum_const n UNITS)

-- from a place on to i, and from there on to j
pub rise_more : (s : ℕ → ℕ) (a i k j b x y : ℕ) → sum_below a s + x ≡ sum_below i s → sum_below k s + y ≡ sum_below j s → i ≡ k → j ≡ b
    → sum_below a s + (x + y) ≡ sum_below b s
rise_more s a i k j b x y e f g h = grind arith

pub rise_room : (s : ℕ → ℕ) (n a i k j x y : ℕ) → sum_below a s + x ≡ sum_below i s → sum_below k s + y ≡ sum_below j s → i ≡ k → j ≤ n → n ≤ MOST_PAGES
    → ((u : ℕ) → u < n → s u ≤ UNITS) → x + y < 2 ^ 128
rise_room s n a i k j x y e f g le few small = omega (arith, rise_more s a i k j j x y e f g refl, sum_small s j (λ u w. small u (omega arith)))

-- ---- sums over a list

pub bits_join : (s : ℕ → ℕ) (xs : List ℕ) → sum_by (low_bits s) xs + sum_by (high_bits s) xs * 2 ^ 40 ≡ sum_by s xs
bits_join s [] = refl
bits_join s (x ∷ xs) =
    omega (arith, sum_by-cons (low_bits s) x xs, sum_by-cons (high_bits s) x xs, sum_by-cons s x xs, parts_join (s x), bits_join s xs)

-- ---- between two places of a table

module _ (n : ℕ) (low high : ℕ → ℕ) (sums : List (List ℕ)) (h : AreSummed n low high sums) (a b : ℕ) (le : a ≤ b) (within : b < length sums) where
  -- the lanes that two entries differ by
  pub rise_lanes : zip2 (λ (a b : ℕ). (a + (2 ^ 64 - b)) % 2 ^ 64) (get_or sums b []) (get_or sums a []) ≡ in_lanes (λ s. sum_below b s - sum_below a s) low high
  rise_lanes =
      rw (h.each b (omega (arith, h.pages)), h.each a (omega (arith, h.pages)))
      (lanes_difference (sum_below b) (sum_below a) low high (λ s. sum_front b a s le))

  abbrev lane : ℕ → ℕ
  lane i = get_or (zip2 (λ (a b : ℕ). (a + (2 ^ 64 - b)) % 2 ^ 64) (get_or sums b []) (get_or sums a [])) i 0

  pub low_rise : b ≤ a + 2 ^ 24 → sum_below a low + (lane 0 + lane 1 * 2 ^ 40) ≡ sum_below b low
  low_rise near = rw rise_lanes (rise_joins low a b le near (λ u w. h.low_small u (omega (arith, h.pages))))

  pub high_rise : b ≤ a + 2 ^ 24 → sum_below a high + (lane 2 + lane 3 * 2 ^ 40) ≡ sum_below b high
  high_rise near = rw rise_lanes (rise_joins high a b le near (λ u w. h.high_small u (omega (arith, h.pages))))
