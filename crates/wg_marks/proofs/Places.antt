-- The set bits of a word, taken from the lowest on.
use Rattle.std.proofs.Common.{◌≡◌, ℕ, zero, suc, ◌+◌, ◌-◌, ◌*◌, ◌/◌, ◌%◌, ◌^◌, ◌<◌, ◌≤◌, min, cond, ◌==◌, Bool, true, false, List, [], ◌∷◌, length, refl, sym, ap, ap₂, subst, ◌∙◌, arith, bit_and, mod-lt, zero-lt-suc, pow-suc, add-zero}
use Rattle.std.specs.Int.Bits.{and_step, and_self}
use Rattle.std.specs.Int.Count.{count_trailing_zeros, under}
use Rattle.wg_graph.specs.Ascending.{Ascends}
use Rattle.wg_marks.specs.Masks.{gaps, places, gaps_from}
use Rattle.wg_marks.proofs.Changed.{bit_cases}

abbrev turn : ℕ → ℕ → ℕ → ℕ → List ℕ
turn k b r t = cond (r == 1) (b ∷ places k (b + 1) t) (places k (b + 1) t)

abbrev Goal : ℕ → ℕ → ℕ → Type 0
Goal k b x = turn k b (x % 2) (x / 2) ≡ (b + under (x % 2) (count_trailing_zeros k (x / 2))) ∷ turn k b (bit_and x (x - 1) % 2) (bit_and x (x - 1) / 2)

pub lowest : (k b x : ℕ) → 0 < x → x < 2 ^ k → places k b x ≡ (b + count_trailing_zeros k x) ∷ places k b (bit_and x (x - 1))
unfolding places count_trailing_zeros
lowest zero b x pos h = let no : ⊥ = omega arith in absurd no
lowest (suc k) b x pos h = bit_cases (λ r. x % 2 ≡ r → Goal k b x) (even (λ p. lowest k (b + 1) (x / 2) p (omega (arith, pow-suc 2 k)))) odd (x % 2) (mod-lt x (zero-lt-suc 1)) refl
  where
    odd : x % 2 ≡ 1 → Goal k b x
    odd e =
        let y = bit_and x (x - 1) in
        let half : (x - 1) / 2 ≡ x / 2 = omega arith in
        let low : min (x % 2) ((x - 1) % 2) ≡ 0 = omega arith in
        let is : y ≡ x / 2 * 2 + 0 = and_step x (x - 1) ∙ ap₂ (λ u v. u * 2 + v) (ap (bit_and (x / 2)) half ∙ and_self (x / 2)) low in
        let p : y % 2 ≡ 0 = omega arith in
        let q : y / 2 ≡ x / 2 = omega arith in
        ap (λ r. turn k b r (x / 2)) e ∙ ap₂ (λ u v. u ∷ v) (sym (ap (λ r. b + under r (count_trailing_zeros k (x / 2))) e ∙ add-zero b)) (sym (ap₂ (turn k b) p q))

    even : (0 < x / 2 → places k (b + 1) (x / 2) ≡ (b + 1 + count_trailing_zeros k (x / 2)) ∷ places k (b + 1) (bit_and (x / 2) (x / 2 - 1))) → x % 2 ≡ 0 → Goal k b x
    even below e =
        let y = bit_and x (x - 1) in
        let half : (x - 1) / 2 ≡ x / 2 - 1 = omega arith in
        let low : min (x % 2) ((x - 1) % 2) ≡ 0 = omega arith in
        let z = bit_and (x / 2) (x / 2 - 1) in
        let is : y ≡ z * 2 + 0 = and_step x (x - 1) ∙ ap₂ (λ u v. u * 2 + v) (ap (bit_and (x / 2)) half) low in
        let p : y % 2 ≡ 0 = omega arith in
        let q : y / 2 ≡ z = omega arith in
        let t = count_trailing_zeros k (x / 2) in
        let place : b + 1 + t ≡ b + suc t = omega arith in
        ap (λ r. turn k b r (x / 2)) e ∙ below (omega arith)
        ∙ ap₂ (λ u v. u ∷ v) (place ∙ sym (ap (λ r. b + under r t) e)) (sym (ap₂ (turn k b) p q))

pub places-none : (k b : ℕ) → places k b 0 ≡ []
unfolding places
places-none zero b = refl
places-none (suc k) b = places-none k (b + 1)

pub none-left : (x : ℕ) → x ≡ 0 → places 64 0 x ≡ []
none-left x is = ap (places 64 0) is ∙ places-none 64 0

-- the word has k bits, and may be looked at as one of more
pub places-more : (k j b x : ℕ) → x < 2 ^ k → places (k + j) b x ≡ places k b x
unfolding places
places-more zero j b x h = let e : x ≡ 0 = omega arith in rw e (places-none (0 + j) b)
places-more (suc k) j b x h =
    let sum : suc k + j ≡ suc (k + j) = omega arith in
    let rest = places-more k j (b + 1) (x / 2) (omega (arith, pow-suc 2 k)) in
    rw sum (rw rest refl)

ascends-turn : (b r : ℕ) (ps : List ℕ) → r < 2 → Ascends (suc b) ps → Ascends b ps → Ascends b (cond (r == 1) (b ∷ ps) ps)
ascends-turn b zero ps lt up low = low
ascends-turn b (suc zero) ps lt up low = (omega arith, up)
ascends-turn b (suc (suc r)) ps lt up low = absurd (omega arith)

pub ascends-low : (a b : ℕ) (ps : List ℕ) → a ≤ b → Ascends b ps → Ascends a ps
ascends-low a b [] le up = tt
ascends-low a b (p ∷ ps) le up = (let h : b ≤ p = up.0 in omega arith, up.1)

pub ascends-places : (k b x : ℕ) → Ascends b (places k b x)
unfolding places
ascends-places zero b x = tt
ascends-places (suc k) b x =
    let rest : Ascends (b + 1) (places k (b + 1) (x / 2)) = ascends-places k (b + 1) (x / 2) in
    ascends-turn b (x % 2) _ (mod-lt x (zero-lt-suc 1)) (ascends-low (suc b) (b + 1) _ (omega arith) rest) (ascends-low b (b + 1) _ (omega arith) rest)

-- gaps are the distances between places
gaps-turn : (last n b r : ℕ) (ps gs hs : List ℕ) → r < 2 → b ≡ last + n → gs ≡ gaps_from b ps → hs ≡ gaps_from last ps → cond (r == 1) (n ∷ gs) hs ≡ gaps_from last (cond (r == 1) (b ∷ ps) ps)
gaps-turn last n b zero ps gs hs lt is same low = low
gaps-turn last n b (suc zero) ps gs hs lt is same low = ap₂ (λ u v. u ∷ v) (let e : n ≡ b - last = omega arith in e) same
gaps-turn last n b (suc (suc r)) ps gs hs lt is same low = absurd (omega arith)

pub gaps-places : (last n k x b : ℕ) → b ≡ last + n → gaps n k x ≡ gaps_from last (places k b x)
unfolding gaps places
gaps-places last n zero x b is = refl
gaps-places last n (suc k) x b is =
    gaps-turn last n b (x % 2) _ _ _ (mod-lt x (zero-lt-suc 1)) is (gaps-places b 1 k (x / 2) (b + 1) refl) (gaps-places last (n + 1) k (x / 2) (b + 1) (omega arith))

pub gaps-word : (k x : ℕ) → k ≤ 64 → x < 2 ^ k → gaps_from 0 (places 64 0 x) ≡ gaps 0 k x
gaps-word k x most h =
    let sum : 64 ≡ k + (64 - k) = omega arith in
    ap (λ j. gaps_from 0 (places j 0 x)) sum ∙ ap (gaps_from 0) (places-more k (64 - k) 0 x h) ∙ sym (gaps-places 0 0 k x 0 (omega arith))

turn-few : (k b : ℕ) (t : Bool) (ps : List ℕ) → length ps ≤ k → length (cond t (b ∷ ps) ps) ≤ suc k
turn-few k b true ps few = omega arith
turn-few k b false ps few = omega arith

places-few : (k b x : ℕ) → length (places k b x) ≤ k
unfolding places
places-few zero b x = omega arith
places-few (suc k) b x = turn-few k b (x % 2 == 1) _ (places-few k (b + 1) (x / 2))

gaps-many : (last : ℕ) (ps : List ℕ) → length (gaps_from last ps) ≡ length ps
gaps-many last [] = refl
gaps-many last (p ∷ ps) = ap suc (gaps-many p ps)

pub gaps-few : (k last b x : ℕ) → length (gaps_from last (places k b x)) ≤ k
gaps-few k last b x = rw (gaps-many last (places k b x)) (places-few k b x)

module _ (last left : ℕ) (some : 0 < left) (fits : left < 2 ^ 64) where
  pub split : places 64 0 left ≡ count_trailing_zeros 64 left ∷ places 64 0 (bit_and left (left - 1))
  split = lowest 64 0 left some fits ∙ ap (λ p. p ∷ places 64 0 (bit_and left (left - 1))) (let e : 0 + count_trailing_zeros 64 left ≡ count_trailing_zeros 64 left = omega arith in e)

  up_split : Ascends last (places 64 0 left) → Ascends last (count_trailing_zeros 64 left ∷ places 64 0 (bit_and left (left - 1)))
  up_split up = subst (Ascends last) split up

  pub next-within : Ascends last (places 64 0 left) → last ≤ count_trailing_zeros 64 left
  next-within up = (up_split up).0

  pub next-ascends : Ascends last (places 64 0 left) → Ascends (count_trailing_zeros 64 left) (places 64 0 (bit_and left (left - 1)))
  next-ascends up = ascends-low _ _ _ (omega arith) (up_split up).1

  pub next-gaps : (block : ℕ) → block ≡ count_trailing_zeros 64 left - last
      → gaps_from last (places 64 0 left) ≡ block ∷ gaps_from (count_trailing_zeros 64 left) (places 64 0 (bit_and left (left - 1)))
  next-gaps block is = ap (gaps_from last) split ∙ ap (λ b. b ∷ gaps_from (count_trailing_zeros 64 left) (places 64 0 (bit_and left (left - 1)))) (sym is)
