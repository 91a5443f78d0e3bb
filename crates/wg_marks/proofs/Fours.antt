-- Four numbers in a row, as bits and in lists.
use Rattle.std.proofs.Common.{◌≡◌, ℕ, zero, suc, ◌+◌, ◌-◌, ◌*◌, ◌/◌, ◌%◌, ◌^◌, ◌<◌, ◌≤◌, Bool, true, false, not, cond, ◌==◌, List, [], ◌∷◌, ◌++◌, map, filter, length, get_or, refl, sym, ap, subst, ◌∙◌, inl, inr, arith, bit_and, bit_or, mod-lt, zero-lt-suc}
use Rattle.std.specs.List.{flat_map}
use Rattle.std.specs.Int.{bit_at}
use Rattle.std.specs.Int.Bits.{or_shifted}
use Rattle.std.proofs.Math.Pow.{shr-shr}
use Rattle.std.proofs.lemmas.Nat.Bits.{bit_at_lowest, bit_at-suc, bit_at-zero, bit_at_and, bit_at_above}
use Rattle.std.proofs.lemmas.Bool.{true≢false, cases_Bool, cases_lt, cases_order, leb-true, eqb-true, eq-eqb}
use mir.Val.{bool_byte}
use Rattle.wg_graph.specs.Numbers.{is_in}
use Rattle.wg_graph.specs.Ascending.{Ascends}
use Rattle.wg_intervals.specs.declared.run.Run.{Run}
use Rattle.wg_intervals.specs.Canonical.{runs_of, is_long, numbers_of, intervals_of, residuals_of}
use Rattle.wg_intervals.proofs.Maximal.{Cut, cut_of, in_run}
use Rattle.wg_marks.specs.Masks.{places}
use Rattle.wg_marks.specs.Spans.{members_at, TellsNext, AreFour, IsWithoutRows}
use Rattle.wg_marks.proofs.Changed.{bit_cases, bit_at_low}
use Rattle.wg_marks.proofs.Places.{places-more}

-- ---- bits

shifted : (n i : ℕ) → bit_at (n / 2 ^ 1) i ≡ bit_at n (suc i)
shifted n i = sym (bit_at-suc n i)

twice : (n i : ℕ) → bit_at (n / 2 ^ 2) i ≡ bit_at n (suc (suc i))
twice n i = ap (λ m. bit_at m i) (sym (shr-shr n 1 1)) ∙ sym (bit_at-suc (n / 2) i) ∙ sym (bit_at-suc n (suc i))

both_set : (a b i : ℕ) → bit_at a i ≡ 1 → bit_at b i ≡ 1 → bit_at (bit_and a b) i ≡ 1
both_set a b i p q = omega (arith, bit_at_and a b i, p, q)

pairs_set : (left next i : ℕ) → bit_at left i ≡ 1 → bit_at left (suc i) ≡ 1 → bit_at next i ≡ 1 → bit_at (bit_and (bit_and left (left / 2 ^ 1)) next) i ≡ 1
pairs_set left next i p q r = both_set _ next i (both_set left _ i p (shifted left i ∙ q)) r

pub fours_set : (left next i : ℕ) → AreFour left next i
    → let pairs : ℕ = bit_and (bit_and left (left / 2 ^ 1)) next in bit_at (bit_and (bit_and pairs (pairs / 2 ^ 1)) (pairs / 2 ^ 2)) i ≡ 1
fours_set left next i h =
    let pairs : ℕ = bit_and (bit_and left (left / 2 ^ 1)) next in
    both_set _ (pairs / 2 ^ 2) i
    (both_set pairs (pairs / 2 ^ 1) i (pairs_set left next i h.first h.second h.next_first) (shifted pairs i ∙ pairs_set left next (suc i) h.second h.third h.next_second))
    (twice pairs i ∙ pairs_set left next (suc (suc i)) h.third h.fourth h.next_third)

-- ---- lists

at_least : (n : ℕ) (xs : List ℕ) (i : ℕ) → Ascends n xs → i < length xs → n ≤ get_or xs i 0
at_least n [] i up lt = absurd (omega arith)
at_least n (x ∷ xs) zero up lt = up.0
at_least n (x ∷ xs) (suc i) up lt = omega (arith, up.0, at_least (suc x) xs i up.1 (omega arith))

rises : (n : ℕ) (xs : List ℕ) (i j : ℕ) → Ascends n xs → i < j → j < length xs → get_or xs i 0 < get_or xs j 0
rises n [] i j up lt within = absurd (omega arith)
rises n (x ∷ xs) i zero up lt within = absurd (omega arith)
rises n (x ∷ xs) zero (suc j) up lt within = omega (arith, at_least (suc x) xs j up.1 (omega arith))
rises n (x ∷ xs) (suc i) (suc j) up lt within = rises (suc x) xs i j up.1 (omega arith) (omega arith)

-- the number after a member stands at the next place
next_place : (xs : List ℕ) (i j : ℕ) → Ascends 0 xs → i < length xs → j < length xs → get_or xs j 0 ≡ suc (get_or xs i 0) → j ≡ suc i
next_place xs i j up low within is =
    elim (cases_order j (suc i)) [
      | inl same ↦ same
      | inr (inl less) ↦ elim (cases_order j i) [
        | inl e ↦ absurd (omega (arith, ap (λ k. get_or xs k 0) e))
        | inr (inl lt) ↦ absurd (omega (arith, rises 0 xs j i up lt low))
        | inr (inr gt) ↦ absurd (omega arith)
      ]
      | inr (inr more) ↦ absurd (omega (arith, rises 0 xs i (suc i) up (omega arith) (omega arith), rises 0 xs (suc i) j up more within))
    ]

-- a member at set bits has a place
record PlaceOf (f : ℕ → ℕ) (b x y : ℕ) : Type 0 where
  pub place : ℕ
  pub set : bit_at x place ≡ 1
  pub is : f (b + place) ≡ y

place_turn : (f : ℕ → ℕ) (b x y r : ℕ) (ps : List ℕ) → r < 2 → x % 2 ≡ r → is_in y (map f (cond (r == 1) (b ∷ ps) ps)) ≡ true
    → (is_in y (map f ps) ≡ true → PlaceOf f (b + 1) (x / 2) y) → PlaceOf f b x y
place_turn f b x y r ps lt low is rest =
    let later : is_in y (map f ps) ≡ true → PlaceOf f b x y = λ h. let p = rest h in record {
      place = suc p.place;
      set = bit_at-suc x p.place ∙ p.set;
      is = ap f (let e : b + suc p.place ≡ b + 1 + p.place = omega arith in e) ∙ p.is;
    } in
    bit_cases (λ r. x % 2 ≡ r → is_in y (map f (cond (r == 1) (b ∷ ps) ps)) ≡ true → PlaceOf f b x y)
    (λ e h. later h)
    (λ e h. elim (cases_Bool (y == f b)) [
      | inl here ↦ record { place = 0; set = bit_at_lowest x ∙ e; is = ap f (let s : b + 0 ≡ b = omega arith in s) ∙ sym (eqb-true y (f b) here) }
      | inr other ↦ later (rw other at h)
    ]) r lt low is

place_of : (f : ℕ → ℕ) (k b x y : ℕ) → is_in y (map f (places k b x)) ≡ true → PlaceOf f b x y
unfolding places
place_of f zero b x y is = absurd (true≢false (sym is))
place_of f (suc k) b x y is = place_turn f b x y (x % 2) (places k (b + 1) (x / 2)) (mod-lt x (zero-lt-suc 1)) refl is (place_of f k (b + 1) (x / 2) y)

-- ---- runs

in_behind : (y : ℕ) (xs ys : List ℕ) → is_in y ys ≡ true → is_in y (xs ++ ys) ≡ true
in_behind y [] ys is = is
in_behind y (x ∷ xs) ys is = elim (cases_Bool (y == x)) [ inl e ↦ rw e refl | inr e ↦ rw e (in_behind y xs ys is) ]

abbrev pub NoFour : List ℕ → Type 0
NoFour xs = (y : ℕ) → is_in y xs ≡ true → is_in (y + 1) xs ≡ true → is_in (y + 2) xs ≡ true → is_in (y + 3) xs ≡ true → ⊥

all_short : (rs : List Run) (n : ℕ) (xs : List ℕ) → Cut n rs xs → NoFour xs
    → (filter (is_long 4) rs ≡ []) × (flat_map numbers_of (filter (λ r. not (is_long 4 r)) rs) ≡ xs)
all_short [] n xs cut none = (refl, sym cut)
all_short (r ∷ rs) n xs cut none =
    let zs : List ℕ = cut.2 in
    let inside : (y : ℕ) → r.left ≤ y → y < r.left + r.length → is_in y xs ≡ true = λ y low high. ap (is_in y) cut.3 ∙ in_run r.left r.length y zs low high in
    let behind : (y : ℕ) → is_in y zs ≡ true → is_in y xs ≡ true = λ y is. ap (is_in y) cut.3 ∙ in_behind y (numbers_of r) zs is in
    let rest = all_short rs (r.left + r.length + 1) zs cut.4 (λ y a b c d. none y (behind y a) (behind (y + 1) b) (behind (y + 2) c) (behind (y + 3) d)) in
    elim (cases_Bool (is_long 4 r)) [
      | inl long ↦
          let size : 4 ≤ r.length = leb-true 4 r.length long in
          absurd (none r.left (inside r.left (omega arith) (omega arith)) (inside (r.left + 1) (omega arith) (omega arith)) (inside (r.left + 2) (omega arith) (omega arith)) (inside (r.left + 3) (omega arith) (omega arith)))
      | inr short ↦ (rw short rest.0, rw short (ap (λ l. numbers_of r ++ l) rest.1 ∙ sym cut.3))
    ]

-- ---- together

module _ (list : List ℕ) (left next : ℕ) (short : length list ≤ 64) (up : Ascends 0 list) (within : left < 2 ^ length list) (tells : TellsNext list next) where
  v : ℕ → ℕ
  v i = get_or list i 0

  abbrev At : ℕ → Type 0
  At y = PlaceOf (λ p. get_or list p 0) 0 left y

  low : (i : ℕ) → bit_at left i ≡ 1 → i < length list
  low i set = elim (cases_lt i (length list)) [ inl lt ↦ lt | inr le ↦ absurd (omega (arith, bit_at_above left (length list) i within le, set)) ]

  value : (y : ℕ) (p : At y) → get_or list p.place 0 ≡ y
  value y p = ap (λ i. get_or list i 0) (let e : p.place ≡ 0 + p.place = omega arith in e) ∙ p.is

  step : (y : ℕ) (p : At y) (q : At (y + 1)) → (q.place ≡ suc p.place) × (bit_at next p.place ≡ 1)
  step y p q =
      let follows : get_or list q.place 0 ≡ suc (get_or list p.place 0) = omega (arith, value y p, value (y + 1) q) in
      let at : q.place ≡ suc p.place = next_place list p.place q.place up (low p.place p.set) (low q.place q.set) follows in
      (at, tells p.place (omega (arith, at, low q.place q.set)) (ap (λ i. get_or list i 0) (sym at) ∙ follows))

  pub four_of : (y : ℕ) → is_in y (members_at list left) ≡ true → is_in (y + 1) (members_at list left) ≡ true → is_in (y + 2) (members_at list left) ≡ true → is_in (y + 3) (members_at list left) ≡ true
      → (i : ℕ) × AreFour left next i
  four_of y a b c d =
      let p : At y = place_of _ 64 0 left y a in
      let q : At (y + 1) = place_of _ 64 0 left (y + 1) b in
      let r : At (y + 1 + 1) = place_of _ 64 0 left (y + 1 + 1) (subst (λ z. is_in z (members_at list left) ≡ true) (let e : y + 2 ≡ y + 1 + 1 = omega arith in e) c) in
      let s : At (y + 1 + 1 + 1) = place_of _ 64 0 left (y + 1 + 1 + 1) (subst (λ z. is_in z (members_at list left) ≡ true) (let e : y + 3 ≡ y + 1 + 1 + 1 = omega arith in e) d) in
      let one = step y p q in
      let two = step (y + 1) q r in
      let three = step (y + 1 + 1) r s in
      let second : q.place ≡ suc p.place = one.0 in
      let third : r.place ≡ suc (suc p.place) = two.0 ∙ ap suc second in
      let fourth : s.place ≡ suc (suc (suc p.place)) = three.0 ∙ ap suc third in (
        p.place,
        record {
          first = p.set;
          second = ap (bit_at left) (sym second) ∙ q.set;
          third = ap (bit_at left) (sym third) ∙ r.set;
          fourth = ap (bit_at left) (sym fourth) ∙ s.set;
          next_first = one.1;
          next_second = ap (bit_at next) (sym second) ∙ two.1;
          next_third = ap (bit_at next) (sym third) ∙ three.1;
        },
      )

up_turn : (f : ℕ → ℕ) (b r n : ℕ) (ps : List ℕ) → r < 2 → n ≤ f b → Ascends (suc (f b)) (map f ps) → Ascends n (map f ps) → Ascends n (map f (cond (r == 1) (b ∷ ps) ps))
up_turn f b zero n ps lt le after up = up
up_turn f b (suc zero) n ps lt le after up = (le, after)
up_turn f b (suc (suc r)) n ps lt le after up = absurd (omega arith)

members_up : (f : ℕ → ℕ) (d k b x n : ℕ) → ((i j : ℕ) → i < j → j < d → f i < f j) → b + k ≤ d → ((i : ℕ) → b ≤ i → i < d → n ≤ f i) → Ascends n (map f (places k b x))
unfolding places
members_up f d zero b x n rise room from = tt
members_up f d (suc k) b x n rise room from =
    up_turn f b (x % 2) n (places k (b + 1) (x / 2)) (mod-lt x (zero-lt-suc 1)) (from b (omega arith) (omega arith))
    (members_up f d k (b + 1) (x / 2) (suc (f b)) rise (omega arith) (λ i low lt. rise b i (omega arith) lt))
    (members_up f d k (b + 1) (x / 2) n rise (omega arith) (λ i low lt. from i (omega arith) lt))

pub members_ascend : (list : List ℕ) (left : ℕ) → length list ≤ 64 → Ascends 0 list → left < 2 ^ length list → Ascends 0 (members_at list left)
members_ascend list left short up within =
    let k : ℕ = length list in
    let sum : k + (64 - k) ≡ 64 = omega arith in
    let same : places 64 0 left ≡ places k 0 left = ap (λ j. places j 0 left) (sym sum) ∙ places-more k (64 - k) 0 left within in
    subst (λ ps. Ascends 0 (map (λ p. get_or list p 0) ps)) (sym same)
    (members_up (λ p. get_or list p 0) k k 0 left 0 (λ i j lt low. rises 0 list i j up lt low) (omega arith) (λ i low lt. omega arith))

pub no_spans : (list : List ℕ) (left next found : ℕ) → length list ≤ 64 → Ascends 0 list → left < 2 ^ length list → TellsNext list next → ((i : ℕ) → AreFour left next i → bit_at found i ≡ 1) → not (found == 0) ≡ false
    → IsWithoutRows (members_at list left)
no_spans list left next found short up within tells fours none =
    let xs : List ℕ = members_at list left in
    let zero_is : found ≡ 0 = elim (cases_Bool (found == 0)) [ inl e ↦ eqb-true found 0 e | inr e ↦ absurd (true≢false (sym (ap not e) ∙ none)) ] in
    let none = all_short (runs_of xs) 0 xs (cut_of 0 xs (members_ascend list left short up within)) (λ y a b c d.
    let four = four_of list left next short up within tells y a b c d in
    absurd (omega (arith, fours four.0 four.1, ap (λ n. bit_at n four.0) zero_is, bit_at-zero four.0))) in
    record { intervals = none.0; residuals = none.1 }

-- ---- which numbers are followed

pub record Telling (list : List ℕ) (left next after : ℕ) : Type 0 where
  pub low : left ≤ length list
  pub here : left < length list → after ≡ get_or list left 0
  pub tells : (i : ℕ) → left ≤ i → suc i < length list → get_or list (suc i) 0 ≡ suc (get_or list i 0) → bit_at next (i - left) ≡ 1

put_low : (n b : ℕ) → b < 2 → bit_at (bit_or (n * 2 ^ 1 % 2 ^ 64) b) 0 ≡ b
put_low n b lt =
    let sum : bit_or (n * 2 ^ 1 % 2 ^ 64) b ≡ n % 2 ^ 63 * 2 + b = ap (λ z. bit_or z b) (let e : n * 2 ^ 1 % 2 ^ 64 ≡ n % 2 ^ 63 * 2 ^ 1 = omega arith in e) ∙ or_shifted (n % 2 ^ 63) 1 b lt in
    bit_at_lowest _ ∙ rw sum (omega arith)

put_high : (n b i : ℕ) → b < 2 → i < 63 → bit_at (bit_or (n * 2 ^ 1 % 2 ^ 64) b) (suc i) ≡ bit_at n i
put_high n b i lt low =
    let sum : bit_or (n * 2 ^ 1 % 2 ^ 64) b ≡ n % 2 ^ 63 * 2 + b = ap (λ z. bit_or z b) (let e : n * 2 ^ 1 % 2 ^ 64 ≡ n % 2 ^ 63 * 2 ^ 1 = omega arith in e) ∙ or_shifted (n % 2 ^ 63) 1 b lt in
    let half : (n % 2 ^ 63 * 2 + b) / 2 ≡ n % 2 ^ 63 = omega arith in
    bit_at-suc _ i ∙ ap (λ m. bit_at (m / 2) i) sum ∙ ap (λ m. bit_at m i) half ∙ bit_at_low 63 n i low

byte_small : (b : Bool) → bool_byte b < 2
byte_small true = omega arith
byte_small false = omega arith

pub telling_on : (list : List ℕ) (left next after : ℕ) → 0 < left → length list ≤ 64 → ((i : ℕ) → get_or list i 0 < 2 ^ 64) → Telling list left next after
    → Telling list (left - 1) (bit_or (next * 2 ^ 1 % 2 ^ 64) (bool_byte ((get_or list (left - 1) 0 + 1) % 2 ^ 64 == after))) (get_or list (left - 1) 0)
telling_on list left next after some short fits t =
    let b : Bool = (get_or list (left - 1) 0 + 1) % 2 ^ 64 == after in
    let small = byte_small b in
    record {
      low = omega (arith, t.low);
      here = λ lt. refl;
      tells = λ i low lt is.
          elim (cases_lt i left) [
            | inl first ↦
                let at : i ≡ left - 1 = omega arith in
                let none : i - (left - 1) ≡ 0 = omega arith in
                let later : suc i ≡ left = omega arith in
                let now : get_or list left 0 ≡ suc (get_or list (left - 1) 0) = ap (λ j. get_or list j 0) (sym later) ∙ is ∙ ap (λ j. suc (get_or list j 0)) at in
                let same : (get_or list (left - 1) 0 + 1) % 2 ^ 64 ≡ after = omega (arith, now, t.here (omega arith), fits left) in
                let set : b ≡ true = eq-eqb _ _ same in
                ap (bit_at _) none ∙ put_low next (bool_byte b) small ∙ ap bool_byte set
            | inr past ↦
                let on : i - (left - 1) ≡ suc (i - left) = omega arith in
                ap (bit_at _) on ∙ put_high next (bool_byte b) (i - left) small (omega arith) ∙ t.tells i past lt is
          ];
    }

pub telling_all : (list : List ℕ) (next after : ℕ) → Telling list 0 next after → TellsNext list next
telling_all list next after t i lt is = ap (bit_at next) (let e : i ≡ i - 0 = omega arith in e) ∙ t.tells i (omega arith) lt is
