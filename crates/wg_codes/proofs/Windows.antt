use Rattle.std.proofs.Common.{◌≡◌, ℕ, suc, ◌+◌, ◌-◌, ◌*◌, ◌/◌, ◌%◌, ◌^◌, ◌<◌, ◌≤◌, Bool, false, List, ◌++◌, length, drop, get_or, refl, sym, ap, ◌∙◌, subst, ⊎_elim, arith, append_assoc}
use Rattle.std.specs.Int.Count.{count_leading_zeros}
use Rattle.std.proofs.Math.Nat.{pow-suc, div-div-eq-div-mul, mul-lt-mul_of_pos_right}
use Rattle.std.proofs.Math.ListN.{replicate}
use Rattle.std.proofs.Math.Pow.{pow_mono}
use Rattle.std.proofs.lemmas.Nat.{leading_top, pow_pos, pow-add, le-div, div_below, div-mul-add, div-add-mod', mod_below, mul-add-lt}
use Rattle.std.proofs.lemmas.Bool.{cases_eq}
use Rattle.wg_bits.specs.Bits.{low_bits}
use Rattle.wg_bits.proofs.LowBits.{length-low_bits, low_bits-add, low_bits-above, low_bits-zero}
use Rattle.wg_bits.proofs.Rest.{first_bits}
use Rattle.wg_codes.specs.declared.outcome.Read.TheVariants.{Value}
use Rattle.wg_codes.specs.Reading.{Reads}
use Rattle.wg_codes.specs.Words.{highest, unary, gamma, zeta}
use Rattle.wg_codes.proofs.Highest.{highest_is}
use Rattle.wg_codes.proofs.ZetaWords.{zeta_top, zeta_value, tail_short, tail_long, short_form, long_form, zeta_span}
use Rattle.wg_codes.proofs.Writing.{one_bit_one, headed_in_one}

no_ones : count_leading_zeros 64 0 ≡ 64
unfolding count_leading_zeros
no_ones = refl

-- a one after m zeros is the unary word of m
unary_bits : (m : ℕ) → low_bits (m + 1) 1 ≡ unary m
unfolding unary
unary_bits m = grind (arith, replicate, low_bits-add, low_bits-zero, one_bit_one)

-- a gamma word is 2 * m + 1 bits of its number
pub gamma_bits : (m y : ℕ) → m ≤ 62 → 2 ^ m ≤ y → y < 2 ^ suc m → low_bits (2 * m + 1) y ≡ gamma (y - 1)
unfolding gamma
gamma_bits m y few low high =
    let pos : 0 < 2 ^ m = pow_pos m in
    let back : y - 1 + 1 ≡ y = omega arith in
    let index : highest (y - 1 + 1) ≡ m = ap highest back ∙ highest_is y m low high (omega arith) in
    let least : 1 ≤ y / 2 ^ m = le-div 1 y (2 ^ m) pos (omega arith) in
    let most : y / 2 ^ m < 2 = div_below y (2 ^ m) 2 pos (omega arith) in
    let sum : 2 * m + 1 ≡ m + 1 + m = omega arith in
    ap (λ k. low_bits k y) sum ∙ low_bits-add (m + 1) m y ∙ ap (λ k. low_bits (m + 1) k ++ low_bits m y) (omega arith)
    ∙ ap (λ z. z ++ low_bits m y) (unary_bits m)
    ∙ ap (λ k. unary m ++ low_bits m k) (sym back) ∙ ap (λ k. unary k ++ low_bits k (y - 1 + 1)) (sym index)

-- ---- a gamma word within one window: the number that the window begins with
pub window_number : (w m : ℕ) → w < 2 ^ 64 → m ≡ count_leading_zeros 64 w → m < 32
    → (2 ^ m ≤ w / 2 ^ (63 - 2 * m)) × (w / 2 ^ (63 - 2 * m) < 2 ^ suc m)
window_number w m l e few = ⊎_elim
    (λ (z : w ≡ 0). let h : count_leading_zeros 64 w ≡ 64 = ap (count_leading_zeros 64) z ∙ no_ones in absurd (omega arith))
    (λ ne.
    let t = leading_top 64 w (omega arith) l in
    let index : m + (63 - 2 * m) ≡ t.0 = omega (arith, t.1) in
    let next : suc m + (63 - 2 * m) ≡ suc t.0 = omega (arith, t.1) in
    let a : 2 ^ m * 2 ^ (63 - 2 * m) ≡ 2 ^ t.0 = sym (pow-add 2 m (63 - 2 * m)) ∙ ap (λ k. 2 ^ k) index in
    let b : 2 ^ suc m * 2 ^ (63 - 2 * m) ≡ 2 ^ suc t.0 = sym (pow-add 2 (suc m) (63 - 2 * m)) ∙ ap (λ k. 2 ^ k) next in
    let pos : 0 < 2 ^ (63 - 2 * m) = pow_pos (63 - 2 * m) in
    (le-div (2 ^ m) w (2 ^ (63 - 2 * m)) pos (omega (arith, t.2)), div_below w (2 ^ (63 - 2 * m)) (2 ^ suc m) pos (omega (arith, t.3))))
    (cases_eq w 0)

pub fast_found : (z : List Bool) (w m most : ℕ) → w < 2 ^ 64 → m ≡ count_leading_zeros 64 w → m < 32 → m ≤ most → most ≤ 62
    → ((i : ℕ) → i < 64 → get_or (low_bits 64 w) i false ≡ get_or z i false) → 2 * m + 1 ≤ length z
    → Reads gamma (2 ^ (most + 1) - 2) z (Value (w / 2 ^ (63 - 2 * m) - 1))
fast_found z w m most l e few lm cap agree fits =
    let n = window_number w m l e few in
    let front : z ≡ low_bits (2 * m + 1) (w / 2 ^ (64 - (2 * m + 1))) ++ drop (2 * m + 1) z =
    first_bits z w (2 * m + 1) (omega arith) (omega arith) agree fits in
    let up : 2 ^ suc m ≤ 2 ^ (most + 1) = pow_mono (let s : suc m ≤ most + 1 = omega arith in s) in (
      omega arith,
      (
        drop (2 * m + 1) z,
        front ∙ ap (λ k. low_bits (2 * m + 1) (w / 2 ^ k) ++ drop (2 * m + 1) z) (omega arith)
            ∙ ap (λ x. x ++ drop (2 * m + 1) z) (gamma_bits m (w / 2 ^ (63 - 2 * m)) (omega arith) n.0 n.1),
      ),
    )

pub fast_place : (w m : ℕ) → w < 2 ^ 64 → m ≡ count_leading_zeros 64 w → m < 32 → 2 * m + 1 ≡ length (gamma (w / 2 ^ (63 - 2 * m) - 1))
fast_place w m l e few =
    let n = window_number w m l e few in
    sym (length-low_bits (2 * m + 1) (w / 2 ^ (63 - 2 * m))) ∙ ap length (gamma_bits m (w / 2 ^ (63 - 2 * m)) (omega arith) n.0 n.1)

-- ---- a head and a field within one window
pub window_field : (w h n : ℕ) → w < 2 ^ 64 → h ≡ count_leading_zeros 64 w → h + n ≤ 63 → (2 ^ n ≤ w / 2 ^ (63 - h - n)) × (w / 2 ^ (63 - h - n) < 2 ^ suc n)
window_field w h n l e few = ⊎_elim
    (λ (z : w ≡ 0). let c : count_leading_zeros 64 w ≡ 64 = ap (count_leading_zeros 64) z ∙ no_ones in absurd (omega arith))
    (λ ne.
    let t = leading_top 64 w (omega arith) l in
    let index : n + (63 - h - n) ≡ t.0 = omega (arith, t.1) in
    let next : suc n + (63 - h - n) ≡ suc t.0 = omega (arith, t.1) in
    let a : 2 ^ n * 2 ^ (63 - h - n) ≡ 2 ^ t.0 = sym (pow-add 2 n (63 - h - n)) ∙ ap (λ k. 2 ^ k) index in
    let b : 2 ^ suc n * 2 ^ (63 - h - n) ≡ 2 ^ suc t.0 = sym (pow-add 2 (suc n) (63 - h - n)) ∙ ap (λ k. 2 ^ k) next in
    let pos : 0 < 2 ^ (63 - h - n) = pow_pos (63 - h - n) in
    (le-div (2 ^ n) w (2 ^ (63 - h - n)) pos (omega (arith, t.2)), div_below w (2 ^ (63 - h - n)) (2 ^ suc n) pos (omega (arith, t.3))))
    (cases_eq w 0)

shifted_out : (q d r e f t m : ℕ) → e ≡ f * 2 → q ≡ t + m → (q * d + r) * f * 2 ≡ t * (d * e) + r * e + m * (d * e)
shifted_out q d r e f t m ef eq = ap (λ x. (x * d + r) * f * 2) eq ∙ (let s : ((t + m) * d + r) * f * 2 ≡ t * (d * (f * 2)) + r * (f * 2) + m * (d * (f * 2)) = omega arith in s) ∙ ap (λ x. t * (d * x) + r * x + m * (d * x)) (sym ef)

-- what stands behind the head, when the bits before it are shifted out
pub field_behind : (w h n : ℕ) → w < 2 ^ 64 → h ≡ count_leading_zeros 64 w → h + n ≤ 63
    → w * 2 ^ h % 2 ^ 64 * 2 % 2 ^ 64 / 2 ^ (64 - n) ≡ w / 2 ^ (63 - h - n) - 2 ^ n
field_behind w h n l e few =
    let f = window_field w h n l e few in
    let t : ℕ = w / 2 ^ (63 - h - n) - 2 ^ n in
    let r : ℕ = w % 2 ^ (63 - h - n) in
    let small : w % 2 ^ (63 - h - n) < 2 ^ (63 - h - n) = mod_below w (2 ^ (63 - h - n)) (pow_pos (63 - h - n)) in
    let wide : 2 ^ (63 - h - n) * 2 ^ suc h ≡ 2 ^ (64 - n) =
    sym (pow-add 2 (63 - h - n) (suc h)) ∙ ap (λ k. 2 ^ k) (let s : 63 - h - n + suc h ≡ 64 - n = omega arith in s) in
    let all : 2 ^ n * 2 ^ (64 - n) ≡ 2 ^ 64 = sym (pow-add 2 n (64 - n)) ∙ ap (λ k. 2 ^ k) (let s : n + (64 - n) ≡ 64 = omega arith in s) in
    let under : w % 2 ^ (63 - h - n) * 2 ^ suc h < 2 ^ (64 - n) =
    subst (λ m. w % 2 ^ (63 - h - n) * 2 ^ suc h < m) wide (mul-lt-mul_of_pos_right small (pow_pos (suc h))) in
    let twice : w * 2 ^ h * 2 ≡ t * 2 ^ (64 - n) + r * 2 ^ suc h + 2 ^ 64 =
    ap (λ m. m * 2 ^ h * 2) (sym (div-add-mod' w (2 ^ (63 - h - n))))
    ∙ shifted_out (w / 2 ^ (63 - h - n)) (2 ^ (63 - h - n)) r (2 ^ suc h) (2 ^ h) t (2 ^ n) (pow-suc 2 h) (omega (arith, f.0))
    ∙ ap (λ m. t * m + r * 2 ^ suc h + 2 ^ n * m) wide ∙ ap (λ m. t * 2 ^ (64 - n) + r * 2 ^ suc h + m) all in
    let low : t * 2 ^ (64 - n) + r * 2 ^ suc h < 2 ^ (64 - n) * 2 ^ n = mul-add-lt t (2 ^ (64 - n)) (r * 2 ^ suc h) (2 ^ n) (omega (arith, f.1)) under in
    ap (λ m. m / 2 ^ (64 - n)) (omega (arith, twice, low, all)) ∙ div-mul-add t (2 ^ (64 - n)) (r * 2 ^ suc h) under

headed_front : (z : List Bool) (w h n : ℕ) → w < 2 ^ 64 → h ≡ count_leading_zeros 64 w → h + n ≤ 63
    → ((i : ℕ) → i < 64 → get_or (low_bits 64 w) i false ≡ get_or z i false) → h + n + 1 ≤ length z
    → (w / 2 ^ (63 - h - n) - 2 ^ n < 2 ^ n) × (z ≡ unary h ++ (low_bits n (w / 2 ^ (63 - h - n) - 2 ^ n) ++ drop (h + n + 1) z))
headed_front z w h n l e few agree fits =
    let f = window_field w h n l e few in
    let shift : 64 - (h + n + 1) ≡ 63 - h - n = omega arith in
    let small : w / 2 ^ (63 - h - n) - 2 ^ n < 2 ^ n = omega (arith, f.0, f.1) in
    let whole : w / 2 ^ (63 - h - n) ≡ 2 ^ n + (w / 2 ^ (63 - h - n) - 2 ^ n) = omega (arith, f.0) in (
      small,
      first_bits z w (h + n + 1) (omega arith) (omega arith) agree fits
          ∙ ap (λ k. low_bits (h + n + 1) (w / 2 ^ k) ++ drop (h + n + 1) z) shift
          ∙ ap (λ x. x ++ drop (h + n + 1) z) (headed_in_one h n (w / 2 ^ (63 - h - n) - 2 ^ n) (w / 2 ^ (63 - h - n)) small whole).0
          ∙ append_assoc (unary h) (low_bits n (w / 2 ^ (63 - h - n) - 2 ^ n)) (drop (h + n + 1) z),
    )

-- a head alone
pub unary_found : (z : List Bool) (w h most : ℕ) → w < 2 ^ 64 → h ≡ count_leading_zeros 64 w → h < 64 → h ≤ most
    → ((i : ℕ) → i < 64 → get_or (low_bits 64 w) i false ≡ get_or z i false) → h + 1 ≤ length z → Reads unary most z (Value h)
unary_found z w h most l e few lm agree fits =
    let f = headed_front z w h 0 l e (omega arith) agree (omega arith) in
    (lm, (low_bits 0 (w / 2 ^ (63 - h - 0) - 2 ^ 0) ++ drop (h + 0 + 1) z, f.1))

-- a head whose long form fits is one that words have
head_small : (k h : ℕ) → 1 ≤ k → h + 1 + (h * k + k) ≤ 64 → h ≤ 63 / k - 1
head_small k h some fits = let q : h + 1 ≤ 63 / k = le-div (h + 1) 63 k (omega arith) (omega arith) in omega arith

-- the field of the long form is that of the short one, and a bit more
longer_field : (w h n : ℕ) → h + n ≤ 63 → 1 ≤ n → (w / 2 ^ (63 - h - n) - 2 ^ n) / 2 ≡ w / 2 ^ (64 - h - n) - 2 ^ (n - 1)
longer_field w h n few some =
    let s : 64 - h - n ≡ suc (63 - h - n) = omega arith in
    let p : 2 ^ (64 - h - n) ≡ 2 ^ (63 - h - n) * 2 = ap (λ m. 2 ^ m) s ∙ pow-suc 2 (63 - h - n) in
    let t : n ≡ suc (n - 1) = omega arith in
    let q : 2 ^ n ≡ 2 ^ (n - 1) * 2 = ap (λ m. 2 ^ m) t ∙ pow-suc 2 (n - 1) in
    let half : w / 2 ^ (63 - h - n) / 2 ≡ w / 2 ^ (64 - h - n) = div-div-eq-div-mul w (2 ^ (63 - h - n)) 2 ∙ ap (λ m. w / m) (sym p) in
    omega arith

pub window_short : (z : List Bool) (k w h least long : ℕ) → 1 ≤ k → k ≤ 31 → w < 2 ^ 64 → h ≡ count_leading_zeros 64 w
    → h + 1 + (h * k + k) ≤ 64 → least ≡ 2 ^ (h * k) → long ≡ w / 2 ^ (63 - h - (h * k + k)) - 2 ^ (h * k + k) → long / 2 < least
    → ((i : ℕ) → i < 64 → get_or (low_bits 64 w) i false ≡ get_or z i false) → h + (h * k + k) ≤ length z
    → Reads (zeta k) (zeta_top k) z (Value (least + long / 2 - 1)) × (h + (h * k + k) ≡ length (zeta k (least + long / 2 - 1)))
window_short z k w h least long some few l e fits el et less agree enough =
    let low : ℕ = long / 2 in
    let f = headed_front z w h (h * k + k - 1) l e (omega arith) agree (omega arith) in
    let shift : 63 - h - (h * k + k - 1) ≡ 64 - h - (h * k + k) = omega arith in
    let same : w / 2 ^ (63 - h - (h * k + k - 1)) - 2 ^ (h * k + k - 1) ≡ long / 2 =
    ap (λ m. w / 2 ^ m - 2 ^ (h * k + k - 1)) shift ∙ sym (longer_field w h (h * k + k) (omega arith) (omega arith)) ∙ ap (λ m. m / 2) (sym et) in
    let room : h * k + k ≤ 63 = omega arith in
    let below : long / 2 < 2 ^ (h * k) = subst (λ m. long / 2 < m) el less in
    let bits : z ≡ unary h ++ (low_bits (h * k + k - 1) low ++ drop (h + (h * k + k - 1) + 1) z) =
    f.1 ∙ ap (λ m. unary h ++ (low_bits (h * k + k - 1) m ++ drop (h + (h * k + k - 1) + 1) z)) same in
    let s = short_form k h low some room below in
    let value : least + low - 1 ≡ 2 ^ (h * k) + low - 1 = ap (λ m. m + low - 1) el in
    let width : length (low_bits (h * k + k - 1) low) ≡ h * k + k - 1 = length-low_bits (h * k + k - 1) low in
    let span : length (zeta k (2 ^ (h * k) + low - 1)) ≡ h + 1 + length (low_bits (h * k + k - 1) low) =
    zeta_span k h (2 ^ (h * k) + low - 1) s.0 ∙ ap (λ x. h + 1 + length x) s.2 in (
      subst (λ m. Reads (zeta k) (zeta_top k) z (Value m)) (sym value)
          (zeta_value k some few z _ (drop (h + (h * k + k - 1) + 1) z) h (2 ^ (h * k) + low - 1) (head_small k h some fits) bits
          (tail_short k h low _ (drop (h + (h * k + k - 1) + 1) z) some room below refl)),
      subst (λ m. h + (h * k + k) ≡ length (zeta k m)) (sym value) (omega arith),
    )

pub window_long : (z : List Bool) (k w h least long : ℕ) → 1 ≤ k → k ≤ 31 → w < 2 ^ 64 → h ≡ count_leading_zeros 64 w
    → h + 1 + (h * k + k) ≤ 64 → least ≡ 2 ^ (h * k) → long ≡ w / 2 ^ (63 - h - (h * k + k)) - 2 ^ (h * k + k) → least ≤ long / 2
    → ((i : ℕ) → i < 64 → get_or (low_bits 64 w) i false ≡ get_or z i false) → h + (h * k + k) + 1 ≤ length z
    → Reads (zeta k) (zeta_top k) z (Value (long - 1)) × (h + (h * k + k) + 1 ≡ length (zeta k (long - 1)))
window_long z k w h least long some few l e fits el et more agree enough =
    let low : ℕ = long / 2 in
    let f = headed_front z w h (h * k + k) l e (omega arith) agree enough in
    let up : h * k + k ≡ suc (h * k + k - 1) = omega arith in
    let q : 2 ^ (h * k + k) ≡ 2 ^ (h * k + k - 1) * 2 = ap (λ m. 2 ^ m) up ∙ pow-suc 2 (h * k + k - 1) in
    let bit : long % 2 < 2 = omega arith in
    let value : long - 1 ≡ 2 * low + long % 2 - 1 = omega arith in
    let room : h * k + k ≤ 63 = omega arith in
    let above : 2 ^ (h * k) ≤ low = subst (λ m. m ≤ low) el more in
    let below : low < 2 ^ (h * k + k - 1) = omega arith in
    let sum : h * k + k - 1 + 1 ≡ h * k + k = omega arith in
    let last : low_bits 1 long ≡ low_bits 1 (long % 2) =
    ap (low_bits 1) (let m : long ≡ long / 2 * 2 ^ 1 + long % 2 = omega arith in m) ∙ low_bits-above 1 (long / 2) (long % 2) in
    let cut : low_bits (h * k + k) long ≡ low_bits (h * k + k - 1) low ++ low_bits 1 (long % 2) =
    ap (λ m. low_bits m long) (sym sum) ∙ low_bits-add (h * k + k - 1) 1 long
    ∙ ap (λ x. low_bits (h * k + k - 1) low ++ x) last in
    let s = long_form k h low (long % 2) some room below above bit in
    let wide : length (low_bits (h * k + k - 1) low ++ low_bits 1 (long % 2)) ≡ h * k + k =
    ap length (sym cut) ∙ length-low_bits (h * k + k) long in
    let span : length (zeta k (2 * low + long % 2 - 1)) ≡ h + 1 + length (low_bits (h * k + k - 1) low ++ low_bits 1 (long % 2)) =
    zeta_span k h (2 * low + long % 2 - 1) s.0 ∙ ap (λ x. h + 1 + length x) s.2 in
    let end : List Bool = drop (h + (h * k + k) + 1) z in
    let bits : z ≡ unary h ++ (low_bits (h * k + k) long ++ end) =
    f.1 ∙ ap (λ m. unary h ++ (low_bits (h * k + k) m ++ end)) (sym et) in
    let tail : low_bits (h * k + k) long ++ end ≡ low_bits (h * k + k - 1) low ++ (low_bits 1 (long % 2) ++ end) =
    ap (λ x. x ++ end) cut ∙ append_assoc (low_bits (h * k + k - 1) low) (low_bits 1 (long % 2)) end in (
      subst (λ m. Reads (zeta k) (zeta_top k) z (Value m)) (sym value)
          (zeta_value k some few z _ end h (2 * low + long % 2 - 1) (head_small k h some fits) bits
          (tail_long k h low (long % 2) _ _ end some room below above bit tail refl)),
      subst (λ m. h + (h * k + k) + 1 ≡ length (zeta k m)) (sym value) (omega arith),
    )
