use Rattle.std.proofs.Common.{◌≡◌, ℕ, suc, ◌+◌, ◌-◌, ◌*◌, ◌/◌, ◌%◌, ◌^◌, ◌<◌, ◌≤◌, Bool, true, false, List, [], ◌++◌, length, refl, sym, ap, ◌∙◌, subst, ⊎_elim, arith, length-append, append_assoc}
use Rattle.std.proofs.Math.Nat.{pow-suc, div-eq_of_lt-le, div-mul-le_self, mul_comm}
use Rattle.std.proofs.Math.Dec.{ltb}
use Rattle.std.proofs.Math.Pow.{pow_mono}
use Rattle.std.proofs.lemmas.Nat.{pow_pos, div_below, mul-le, le-div, one_shl}
use Rattle.std.proofs.lemmas.Bool.{cases_lt, cond-true, cond-false, lt-ltb, le-ltb}
use Rattle.std.proofs.lemmas.List.{append-nil, nil_from_length}
use Rattle.wg_bits.specs.Bits.{low_bits, Position, moved}
use Rattle.wg_bits.proofs.LowBits.{length-low_bits, low_bits-add, low_bits-above, low_bits-injective}
use Rattle.wg_codes.specs.declared.outcome.Read.TheVariants.{Value, Cut, NoWord}
use Rattle.wg_codes.specs.Reading.{ProperlyBegins, Reads, after}
use Rattle.wg_codes.specs.Words.{highest, unary, zeta, shortened}
use Rattle.wg_codes.specs.Parts.{IsShortenedAt, IsCutAt}
use Rattle.wg_codes.proofs.Prefix.{Free, Headed, free_headed, no_head, cut_head, cut_tail, value_tail}
use Rattle.wg_codes.proofs.Highest.{highest_bounds, highest_below, between_powers, same_fronts, filled}
use Rattle.wg_codes.proofs.UnaryWords.{free_unary, length-unary}

-- all of it fits
pub room : (k h : ℕ) → h < 63 / k → h * k + k ≤ 63
room k h l = grind arith

-- the index of a number between the powers
place_between : (k h y : ℕ) → 1 ≤ k → h * k + k ≤ 63 → 2 ^ (h * k) ≤ y → y < 2 ^ (h * k + k) → highest y / k ≡ h
place_between k h y some few low high =
    let pos : 0 < 2 ^ (h * k) = pow_pos (h * k) in
    let big : 2 ^ (h * k + k) ≤ 2 ^ 63 = pow_mono few in
    let b = highest_bounds y (omega arith) (omega arith) in
    let least : h * k ≤ highest y = between_powers y (h * k) (highest y) low b.1 in
    let top_place : suc (h * k + k - 1) ≡ h * k + k = omega arith in
    let most : highest y ≤ h * k + k - 1 = between_powers y (highest y) (h * k + k - 1) b.0 (subst (λ m. y < 2 ^ m) (sym top_place) high) in
    div-eq_of_lt-le k least (omega arith)

pub short_form : (k h t : ℕ) → 1 ≤ k → h * k + k ≤ 63 → t < 2 ^ (h * k)
    → (highest (2 ^ (h * k) + t - 1 + 1) / k ≡ h) × (2 ^ (h * k) + t - 1 < 2 ^ (h * k + k) - 1)
    × (shortened k h (2 ^ (h * k) + t - 1 + 1) ≡ low_bits (h * k + k - 1) t)
short_form k h t some few l =
    let up : 2 ^ suc (h * k) ≤ 2 ^ (h * k + k) = pow_mono (let s : suc (h * k) ≤ h * k + k = omega arith in s) in
    let test : ltb (2 ^ (h * k) + t - 1 + 1 - 2 ^ (h * k)) (2 ^ (h * k)) ≡ true = lt-ltb _ _ (omega arith) in (
      place_between k h (2 ^ (h * k) + t - 1 + 1) some few (omega arith) (omega arith),
      omega arith,
      cond-true _ _ _ test ∙ ap (low_bits (h * k + k - 1)) (omega arith),
    )

pub long_form : (k h t b : ℕ) → 1 ≤ k → h * k + k ≤ 63 → t < 2 ^ (h * k + k - 1) → 2 ^ (h * k) ≤ t → b < 2
    → (highest (2 * t + b - 1 + 1) / k ≡ h) × (2 * t + b - 1 < 2 ^ (h * k + k) - 1)
    × (shortened k h (2 * t + b - 1 + 1) ≡ low_bits (h * k + k - 1) t ++ low_bits 1 b)
long_form k h t b some few l low lb =
    let pos : 0 < 2 ^ (h * k) = pow_pos (h * k) in
    let sum : h * k + k - 1 + 1 ≡ h * k + k = omega arith in
    let suc_sum : suc (h * k + k - 1) ≡ h * k + k = omega arith in
    let p : 2 ^ (h * k + k) ≡ 2 ^ (h * k + k - 1) * 2 = ap (λ m. 2 ^ m) (sym suc_sum) ∙ pow-suc 2 (h * k + k - 1) in
    let ey : 2 * t + b - 1 + 1 ≡ 2 * t + b = omega arith in
    let test : ltb (2 * t + b - 1 + 1 - 2 ^ (h * k)) (2 ^ (h * k)) ≡ false = le-ltb _ _ (omega arith) in
    let half : (2 * t + b - 1 + 1) / 2 ^ 1 ≡ t = omega arith in
    let last : low_bits 1 (2 * t + b - 1 + 1) ≡ low_bits 1 b =
    ap (low_bits 1) (ey ∙ (let m : 2 * t + b ≡ t * 2 ^ 1 + b = omega arith in m)) ∙ low_bits-above 1 t b in
    let cut : low_bits (h * k + k) (2 * t + b - 1 + 1) ≡ low_bits (h * k + k - 1) t ++ low_bits 1 b =
    ap (λ m. low_bits m (2 * t + b - 1 + 1)) (sym sum) ∙ low_bits-add (h * k + k - 1) 1 (2 * t + b - 1 + 1)
    ∙ ap (λ m. low_bits (h * k + k - 1) m ++ low_bits 1 (2 * t + b - 1 + 1)) half
    ∙ ap (λ z. low_bits (h * k + k - 1) t ++ z) last in
    (place_between k h (2 * t + b - 1 + 1) some few (omega arith) (omega arith), omega arith, cond-false _ _ _ test ∙ cut)

-- ---- reading the tail
pub tail_short : (k h t : ℕ) (z1 z2 : List Bool) → 1 ≤ k → h * k + k ≤ 63 → t < 2 ^ (h * k) → z1 ≡ low_bits (h * k + k - 1) t ++ z2
    → IsShortenedAt k h (2 ^ (h * k) + t - 1) z1 z2
tail_short k h t z1 z2 some few l e =
    let f = short_form k h t some few l in
    record { index = f.0; below = f.1; bits = e ∙ ap (λ z. z ++ z2) (sym f.2) }

pub tail_long : (k h t b : ℕ) (z1 z2 z3 : List Bool) → 1 ≤ k → h * k + k ≤ 63 → t < 2 ^ (h * k + k - 1) → 2 ^ (h * k) ≤ t → b < 2
    → z1 ≡ low_bits (h * k + k - 1) t ++ z2 → z2 ≡ low_bits 1 b ++ z3 → IsShortenedAt k h (2 * t + b - 1) z1 z3
tail_long k h t b z1 z2 z3 some few l low lb e f =
    let g = long_form k h t b some few l low lb in
    record {
      index = g.0;
      below = g.1;
      bits = e ∙ ap (λ z. low_bits (h * k + k - 1) t ++ z) f ∙ sym (append_assoc (low_bits (h * k + k - 1) t) (low_bits 1 b) z3) ∙ ap (λ z. z ++ z3) (sym g.2);
    }

pub tail_cut_early : (k h : ℕ) (z : List Bool) → 1 ≤ k → h * k + k ≤ 63 → length z < h * k + k - 1 → IsCutAt k h z
tail_cut_early k h z some few short =
    let f = filled z (h * k + k - 1) short in
    let t : ℕ = f.0 in
    ⊎_elim
    (λ (m : t < 2 ^ (h * k)).
    let g = short_form k h t some few m in
    let r : IsCutAt k h z = record { v = 2 ^ (h * k) + t - 1; index = g.0; below = g.1; cut = (f.2.0, f.2.1, g.2 ∙ f.2.2) } in r)
    (λ (m : 2 ^ (h * k) ≤ t).
    let g = long_form k h t 0 some few f.1 m (omega arith) in
    let more : 0 < length (f.2.0 ++ low_bits 1 0) = omega (arith, length-append f.2.0 (low_bits 1 0), length-low_bits 1 0) in
    let r : IsCutAt k h z = record {
      v = 2 * t + 0 - 1;
      index = g.0;
      below = g.1;
      cut = (f.2.0 ++ low_bits 1 0, more, g.2 ∙ ap (λ y. y ++ low_bits 1 0) f.2.2 ∙ append_assoc z f.2.0 (low_bits 1 0));
    } in r)
    (cases_lt t (2 ^ (h * k)))

pub tail_cut_late : (k h t : ℕ) (z y : List Bool) → 1 ≤ k → h * k + k ≤ 63 → t < 2 ^ (h * k + k - 1) → 2 ^ (h * k) ≤ t
    → z ≡ low_bits (h * k + k - 1) t ++ y → length y < 1 → IsCutAt k h z
tail_cut_late k h t z y some few l low e f =
    let g = long_form k h t 0 some few l low (omega arith) in
    let none : y ≡ [] = nil_from_length y (omega arith) in
    let whole : z ≡ low_bits (h * k + k - 1) t = e ∙ ap (λ x. low_bits (h * k + k - 1) t ++ x) none ∙ append-nil _ in
    record { v = 2 * t + 0 - 1; index = g.0; below = g.1; cut = (low_bits 1 0, omega (arith, length-low_bits 1 0), g.2 ∙ ap (λ x. x ++ low_bits 1 0) (sym whole)) }

-- ---- the words
abbrev pub zeta_head : ℕ → ℕ → ℕ
zeta_head k v = highest (v + 1) / k

abbrev pub zeta_tail : ℕ → ℕ → List Bool
zeta_tail k v = shortened k (highest (v + 1) / k) (v + 1)

abbrev pub zeta_top : ℕ → ℕ
zeta_top k = 2 ^ (k * (63 / k)) - 2

quotient_some : (k : ℕ) → 1 ≤ k → k ≤ 31 → 0 < 63 / k
quotient_some k some few = let h : 1 ≤ 63 / k = le-div 1 63 k (omega arith) (omega arith) in h

pub headed_zeta : (k : ℕ) → 1 ≤ k → k ≤ 31 → Headed (zeta k) unary (zeta_tail k) (zeta_head k) (zeta_top k) (63 / k - 1)
unfolding zeta
headed_zeta k some few v l =
    let turn : k * (63 / k) ≡ 63 / k * k = mul_comm k (63 / k) in
    let pos : 2 ≤ 2 ^ (k * (63 / k)) = subst (λ m. 2 ≤ 2 ^ m) (sym turn) (let b : 1 ≤ 63 / k * k = omega arith in let a : 2 ^ 1 ≤ 2 ^ (63 / k * k) = pow_mono b in a) in
    let step : suc (k * (63 / k) - 1) ≡ k * (63 / k) = omega arith in
    let most : highest (v + 1) ≤ k * (63 / k) - 1 =
    highest_below (v + 1) (k * (63 / k) - 1) (omega arith) (subst (λ m. v + 1 < 2 ^ m) (sym step) (omega arith)) (omega arith) in
    let under : highest (v + 1) / k < 63 / k = div_below (highest (v + 1)) k (63 / k) (omega arith) (omega arith) in
    (refl, omega arith)

pub bounds_of : (k v : ℕ) → 1 ≤ k → k ≤ 31 → v ≤ zeta_top k → (2 ^ (highest (v + 1) / k * k) ≤ v + 1) × (v + 1 < 2 ^ (highest (v + 1) / k * k + k))
bounds_of k v some few l =
    let big : 2 ^ (k * (63 / k)) ≤ 2 ^ 63 = pow_mono (let s : k * (63 / k) ≤ 63 = omega arith in s) in
    let b = highest_bounds (v + 1) (omega arith) (omega arith) in
    let low : highest (v + 1) / k * k ≤ highest (v + 1) = div-mul-le_self (highest (v + 1)) k in
    let down : 2 ^ (highest (v + 1) / k * k) ≤ 2 ^ highest (v + 1) = pow_mono low in
    let up : 2 ^ suc (highest (v + 1)) ≤ 2 ^ (highest (v + 1) / k * k + k) = pow_mono (let s : suc (highest (v + 1)) ≤ highest (v + 1) / k * k + k = omega arith in s) in
    (omega arith, omega arith)

-- a short form and a long one differ in their common bits
pub tails_apart : (k h y z : ℕ) (a b : List Bool) → 1 ≤ k → h * k + k ≤ 63
    → 2 ^ (h * k) ≤ y → y < 2 ^ (h * k + k) → 2 ^ (h * k) ≤ z → z < 2 ^ (h * k + k)
    → shortened k h y ++ a ≡ shortened k h z ++ b → y ≡ z
tails_apart k h y z a b some few ly hy lz hz e =
    let sum : h * k + k - 1 + 1 ≡ h * k + k = omega arith in
    let suc_sum : suc (h * k + k - 1) ≡ h * k + k = omega arith in
    let p : 2 ^ (h * k + k) ≡ 2 ^ (h * k + k - 1) * 2 = ap (λ m. 2 ^ m) (sym suc_sum) ∙ pow-suc 2 (h * k + k - 1) in
    let short : (x : ℕ) → x - 2 ^ (h * k) < 2 ^ (h * k) → shortened k h x ≡ low_bits (h * k + k - 1) (x - 2 ^ (h * k)) =
    λ x l. cond-true _ _ _ (lt-ltb _ _ l) in
    let long : (x : ℕ) → 2 ^ (h * k) ≤ x - 2 ^ (h * k) → shortened k h x ≡ low_bits (h * k + k - 1) (x / 2 ^ 1) ++ low_bits 1 x =
    λ x l. cond-false _ _ _ (le-ltb _ _ l) ∙ ap (λ m. low_bits m x) (sym sum) ∙ low_bits-add (h * k + k - 1) 1 x in
    let front : (m n : ℕ) (x1 x2 : List Bool) → low_bits (h * k + k - 1) m ++ x1 ≡ low_bits (h * k + k - 1) n ++ x2 → m < 2 ^ (h * k + k - 1) → n < 2 ^ (h * k + k - 1) → m ≡ n =
    λ m n x1 x2 f lm ln. low_bits-injective (h * k + k - 1) m n lm ln
    (same_fronts (low_bits (h * k + k - 1) m) (low_bits (h * k + k - 1) n) x1 x2 (length-low_bits _ m ∙ sym (length-low_bits _ n)) f) in
    ⊎_elim
    (λ (sy : y - 2 ^ (h * k) < 2 ^ (h * k)). ⊎_elim
    (λ (sz : z - 2 ^ (h * k) < 2 ^ (h * k)).
    let f : y - 2 ^ (h * k) ≡ z - 2 ^ (h * k) = front (y - 2 ^ (h * k)) (z - 2 ^ (h * k)) a b
    (ap (λ x. x ++ a) (sym (short y sy)) ∙ e ∙ ap (λ x. x ++ b) (short z sz)) (omega arith) (omega arith) in omega arith)
    (λ (gz : 2 ^ (h * k) ≤ z - 2 ^ (h * k)).
    let f : y - 2 ^ (h * k) ≡ z / 2 ^ 1 = front (y - 2 ^ (h * k)) (z / 2 ^ 1) a (low_bits 1 z ++ b)
    (ap (λ x. x ++ a) (sym (short y sy)) ∙ e ∙ ap (λ x. x ++ b) (long z gz) ∙ append_assoc (low_bits (h * k + k - 1) (z / 2 ^ 1)) (low_bits 1 z) b) (omega arith) (omega arith) in omega arith)
    (cases_lt (z - 2 ^ (h * k)) (2 ^ (h * k))))
    (λ (gy : 2 ^ (h * k) ≤ y - 2 ^ (h * k)). ⊎_elim
    (λ (sz : z - 2 ^ (h * k) < 2 ^ (h * k)).
    let f : y / 2 ^ 1 ≡ z - 2 ^ (h * k) = front (y / 2 ^ 1) (z - 2 ^ (h * k)) (low_bits 1 y ++ a) b
    (sym (append_assoc (low_bits (h * k + k - 1) (y / 2 ^ 1)) (low_bits 1 y) a) ∙ ap (λ x. x ++ a) (sym (long y gy)) ∙ e ∙ ap (λ x. x ++ b) (short z sz)) (omega arith) (omega arith) in omega arith)
    (λ (gz : 2 ^ (h * k) ≤ z - 2 ^ (h * k)).
    let ez : shortened k h z ≡ low_bits (h * k + k) z = cond-false _ _ _ (le-ltb _ _ gz) in
    low_bits-injective (h * k + k) y z hy hz
    (same_fronts (low_bits (h * k + k) y) (low_bits (h * k + k) z) a b (length-low_bits _ y ∙ sym (length-low_bits _ z))
    (ap (λ x. x ++ a) (sym (cond-false _ _ _ (le-ltb _ _ gy))) ∙ e ∙ ap (λ x. x ++ b) ez)))
    (cases_lt (z - 2 ^ (h * k)) (2 ^ (h * k))))
    (cases_lt (y - 2 ^ (h * k)) (2 ^ (h * k)))

pub free_zeta : (k : ℕ) → 1 ≤ k → k ≤ 31 → Free (zeta k) (zeta_top k)
free_zeta k some few =
    free_headed (zeta k) unary (zeta_tail k) (zeta_head k) (zeta_top k) (63 / k - 1) (headed_zeta k some few) (free_unary (63 / k - 1))
    (λ v w x y lv lw h e.
    let q : 0 < 63 / k = quotient_some k some few in
    let head_v : highest (v + 1) / k ≤ 63 / k - 1 = (headed_zeta k some few v lv).1 in
    let fits : highest (v + 1) / k * k + k ≤ 63 = room k (highest (v + 1) / k) (omega arith) in
    let dv = bounds_of k v some few lv in
    let dw = bounds_of k w some few lw in
    let same : v + 1 ≡ w + 1 = tails_apart k (highest (v + 1) / k) (v + 1) (w + 1) x y some fits dv.0 dv.1
    (subst (λ m. 2 ^ (m * k) ≤ w + 1) (sym h) dw.0) (subst (λ m. w + 1 < 2 ^ (m * k + k)) (sym h) dw.1)
    (e ∙ ap (λ m. shortened k m (w + 1) ++ y) (sym h)) in
    omega arith)

-- ---- the whole word, when its head has been read
below_zeta : (k h v : ℕ) → h ≤ 63 / k - 1 → 0 < 63 / k → v < 2 ^ (h * k + k) - 1 → v ≤ zeta_top k
below_zeta k h v l q lv = grind (arith, mul_comm, pow_mono, mul-le)

pub zeta_head_cut : (k : ℕ) → 1 ≤ k → k ≤ 31 → (z : List Bool) → Reads unary (63 / k - 1) z Cut → Reads (zeta k) (zeta_top k) z Cut
zeta_head_cut k some few z c =
    let a : ℕ = c.0 in
    let la : c.0 ≤ 63 / k - 1 = c.1 in
    let q : 0 < 63 / k = quotient_some k some few in
    let f = short_form k a 0 some (room k a (omega arith)) (pow_pos (a * k)) in
    cut_head (zeta k) unary (zeta_tail k) (zeta_head k) (zeta_top k) (63 / k - 1) (headed_zeta k some few) z (2 ^ (a * k) + 0 - 1)
    (below_zeta k a _ la q f.1) (subst (λ m. ProperlyBegins z (unary m)) (sym f.0) c.2)

pub zeta_head_none : (k : ℕ) → 1 ≤ k → k ≤ 31 → (z : List Bool) → Reads unary (63 / k - 1) z NoWord → Reads (zeta k) (zeta_top k) z NoWord
zeta_head_none k some few z none =
    no_head (zeta k) unary (zeta_tail k) (zeta_head k) (zeta_top k) (63 / k - 1) (headed_zeta k some few) z none

pub zeta_cut : (k : ℕ) → 1 ≤ k → k ≤ 31 → (z z1 : List Bool) (h : ℕ) → h ≤ 63 / k - 1 → z ≡ unary h ++ z1 → IsCutAt k h z1 → Reads (zeta k) (zeta_top k) z Cut
zeta_cut k some few z z1 h lh e c =
    cut_tail (zeta k) unary (zeta_tail k) (zeta_head k) (zeta_top k) (63 / k - 1) (headed_zeta k some few) z z1 c.v
    (below_zeta k h c.v lh (quotient_some k some few) c.below)
    (e ∙ ap (λ p. unary p ++ z1) (sym c.index))
    (subst (λ p. ProperlyBegins z1 (shortened k p (c.v + 1))) (sym c.index) c.cut)

pub zeta_value : (k : ℕ) → 1 ≤ k → k ≤ 31 → (z z1 z2 : List Bool) (h v : ℕ) → h ≤ 63 / k - 1 → z ≡ unary h ++ z1 → IsShortenedAt k h v z1 z2
    → Reads (zeta k) (zeta_top k) z (Value v)
zeta_value k some few z z1 z2 h v lh e n =
    value_tail (zeta k) unary (zeta_tail k) (zeta_head k) (zeta_top k) (63 / k - 1) (headed_zeta k some few) z z1 z2 v
    (below_zeta k h v lh (quotient_some k some few) n.below)
    (e ∙ ap (λ p. unary p ++ z1) (sym n.index))
    (n.bits ∙ ap (λ p. shortened k p (v + 1) ++ z2) (sym n.index))

pub zeta_span : (k h v : ℕ) → highest (v + 1) / k ≡ h → length (zeta k v) ≡ h + 1 + length (shortened k h (v + 1))
unfolding zeta
zeta_span k h v e =
    ap (λ m. length (unary m ++ shortened k m (v + 1))) e ∙ length-append (unary h) (shortened k h (v + 1))
    ∙ ap (λ m. m + length (shortened k h (v + 1))) (length-unary h)

pub zeta_place : (k : ℕ) (p q r : Position) (h v : ℕ) → q ≡ after unary p (Value h) → r ≡ moved q (length (shortened k h (v + 1))) → highest (v + 1) / k ≡ h
    → r ≡ moved p (length (zeta k v))
unfolding zeta
zeta_place k p q r h v eq er hh =
    let long : length (zeta k v) ≡ length (unary h) + length (shortened k h (v + 1)) =
    ap (λ m. length (unary m ++ shortened k m (v + 1))) hh ∙ length-append (unary h) (shortened k h (v + 1)) in
    let sum : p.at + length (unary h) + length (shortened k h (v + 1)) ≡ p.at + length (zeta k v) = omega arith in
    er ∙ ap (λ x. moved x (length (shortened k h (v + 1)))) eq ∙ ap (λ a. let x : Position = record { bits = p.bits; at = a } in x) sum

-- ---- the numbers of the code
pub least_is : (k h : ℕ) → 1 ≤ k → h * k + k ≤ 63 → (1 * 2 ^ (h * k)) % 2 ^ 64 ≡ 2 ^ (h * k)
least_is k h some few = one_shl (h * k) 64 (omega arith)

pub least_small : (k h : ℕ) → 1 ≤ k → h * k + k ≤ 63 → 2 ^ (h * k) ≤ 2 ^ 62
least_small k h some few = pow_mono (let s : h * k ≤ 62 = omega arith in s)

pub low_small : (k h t : ℕ) → 1 ≤ k → h * k + k ≤ 63 → t < 2 ^ (h * k + k - 1) → t < 2 ^ 62
low_small k h t some few l = let p : 2 ^ (h * k + k - 1) ≤ 2 ^ 62 = pow_mono (let s : h * k + k - 1 ≤ 62 = omega arith in s) in omega arith

pub place_short : (k h t : ℕ) (p q : Position) → 1 ≤ k → h * k + k ≤ 63 → t < 2 ^ (h * k) → q ≡ moved p (h * k + k - 1)
    → q ≡ moved p (length (shortened k h (2 ^ (h * k) + t - 1 + 1)))
place_short k h t p q some few l e = grind (arith, length-low_bits, short_form)

pub place_long : (k h t b : ℕ) (p q r : Position) → 1 ≤ k → h * k + k ≤ 63 → t < 2 ^ (h * k + k - 1) → 2 ^ (h * k) ≤ t → b < 2
    → q ≡ moved p (h * k + k - 1) → r ≡ moved q 1 → r ≡ moved p (length (shortened k h (2 * t + b - 1 + 1)))
place_long k h t b p q r some few l low lb e f = grind (arith, length-low_bits, long_form)
