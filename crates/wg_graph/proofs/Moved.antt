-- Numbers that are moved within one memory.
use Rattle.std.proofs.Common.{◌≡◌, ℕ, zero, suc, ◌+◌, ◌-◌, ◌<◌, ◌≤◌, inl, inr, List, [], ◌∷◌, ◌++◌, length, take, drop, refl, sym, ap, subst, ◌∙◌, arith, length-drop}
use Rattle.std.specs.Prelude.{get_or, set}
use Rattle.std.proofs.lemmas.Bool.{cases_lt}
use Rattle.std.proofs.lemmas.List.{append_assoc, append-nil, length-take-le, take-take, take-set-le, get_or-take, drop-set, take_at, take_more, take_more_set, drop-drop, drop_all, drop_more, drop-set-lt, get_or-drop}
use Rattle.wg_graph.specs.Ascending.{Ascends, Below}
use Rattle.wg_graph.proofs.Sets.{below_push}
use Rattle.wg_graph.proofs.Asked.{ascends-drop}

-- what is the same from one place on is the same from any later one on
pub kept_further : (a b : ℕ) (xs ys : List ℕ) → a ≤ b → drop a xs ≡ drop a ys → drop b xs ≡ drop b ys
kept_further a b xs ys le h =
    let on : a + (b - a) ≡ b = omega (arith, le) in
    ap (λ (k : ℕ). drop k xs) (sym on) ∙ sym (drop-drop (b - a) a xs) ∙ ap (λ (l : List ℕ). drop (b - a) l) h ∙ drop-drop (b - a) a ys ∙ ap (λ (k : ℕ). drop k ys) on

-- what a slice of a vector has become, the vector is
pub written_back : (n : ℕ) (new old : List ℕ) → n ≡ length new → take n (new ++ drop (length new) old) ≡ new
written_back n new old is = take_at new (drop (length new) old) n (sym is)

-- ---- the first ones, up to a bound

-- so many numbers from the one place on were copied to the other place; all are below the bound
pub record Passed (bound to from done : ℕ) (old now : List ℕ) : Type 0 where
  pub below : Below bound (take done (drop from old))
  pub copied : take (to + done) now ≡ take to old ++ take done (drop from old)
  pub kept : drop (from + done) now ≡ drop (from + done) old

pub passed_none : (bound to from : ℕ) (old : List ℕ) → Passed bound to from 0 old old
passed_none bound to from old =
    let place : to + 0 ≡ to = omega arith in
    record { below = tt; copied = ap (λ (k : ℕ). take k old) place ∙ sym (append-nil (take to old)); kept = refl }

number_there : (from done : ℕ) (old now : List ℕ) → drop (from + done) now ≡ drop (from + done) old → get_or now (from + done) 0 ≡ get_or (drop from old) done 0
number_there from done old now kept =
    let place : from + done + 0 ≡ from + done = omega arith in
    ap (λ (k : ℕ). get_or now k 0) (sym place) ∙ sym (get_or-drop (from + done) now 0 0) ∙ ap (λ (l : List ℕ). get_or l 0 0) kept ∙ get_or-drop (from + done) old 0 0 ∙ ap (λ (k : ℕ). get_or old k 0) place ∙ sym (get_or-drop from old done 0)

pub passed_more : (bound to from done : ℕ) (old now : List ℕ) → to < from → from + done < length now → length now ≡ length old → get_or now (from + done) 0 < bound → Passed bound to from done old now
    → Passed bound to from (done + 1) old (set now (to + done) (get_or now (from + done) 0))
passed_more bound to from done old now lt within same less h =
    let x : ℕ = get_or now (from + done) 0 in
    let is : x ≡ get_or (drop from old) done 0 = number_there from done old now h.kept in
    let more : take (done + 1) (drop from old) ≡ take done (drop from old) ++ x ∷ [] = take_more (drop from old) done 0 (omega (arith, length-drop from old, same, within)) ∙ ap (λ (y : ℕ). take done (drop from old) ++ y ∷ []) (sym is) in
    let place : to + (done + 1) ≡ to + done + 1 = omega arith in
    record {
      below = subst (Below bound) (sym more) (below_push bound x (take done (drop from old)) less h.below);
      copied = ap (λ (k : ℕ). take k (set now (to + done) x)) place ∙ take_more_set now (to + done) x (omega (arith, lt, within)) ∙ ap (λ (l : List ℕ). l ++ x ∷ []) h.copied ∙ append_assoc (take to old) (take done (drop from old)) (x ∷ []) ∙ ap (λ (l : List ℕ). take to old ++ l) (sym more);
      kept = drop-set-lt (from + (done + 1)) now (to + done) x (omega (arith, lt)) ∙ kept_further (from + done) (from + (done + 1)) now old (omega arith) h.kept;
    }

-- the first of the others is not below it
pub last_above : (bound from done : ℕ) (old now : List ℕ) → drop (from + done) now ≡ drop (from + done) old → length now ≡ length old → (from + done < length now → bound ≤ get_or now (from + done) 0) → (x : ℕ) (others : List ℕ) → drop (from + done) old ≡ x ∷ others → bound ≤ x
last_above bound from done old now kept same above x others is =
    elim (cases_lt (from + done) (length now)) [
      | inl here ↦ let both : get_or now (from + done) 0 ∷ drop (from + done + 1) now ≡ x ∷ others = sym (drop_more now (from + done) 0 here) ∙ kept ∙ is in let first : get_or now (from + done) 0 ≡ x = ap (λ (l : List ℕ). get_or l 0 0) both in omega (arith, above here, first)
      | inr past ↦ absurd (let none : [] ≡ x ∷ others = sym (drop_all (from + done) old (omega (arith, past, same))) ∙ is in cc)
    ]

-- ---- the last ones, down to a bound

-- so many numbers before the one place were copied before the other; all are above the bound
pub record Lifted (bound from to done : ℕ) (old now : List ℕ) : Type 0 where
  pub above : Ascends bound (drop (from - done) (take from old))
  pub kept : take (from - done) now ≡ take (from - done) old
  pub copied : drop (to - done) now ≡ drop (from - done) (take from old) ++ drop to old

pub lifted_none : (bound from to : ℕ) (old : List ℕ) → from ≤ length old → Lifted bound from to 0 old old
lifted_none bound from to old fits =
    let none : drop from (take from old) ≡ [] = drop_all from (take from old) (omega (arith, length-take-le from old fits)) in
    let place : from - 0 ≡ from = omega arith in
    let other : to - 0 ≡ to = omega arith in
    record {
      above = subst (λ (k : ℕ). Ascends bound (drop k (take from old))) (sym place) (subst (Ascends bound) (sym none) tt);
      kept = refl;
      copied = ap (λ (k : ℕ). drop k old) other ∙ ap (λ (l : List ℕ). l ++ drop to old) (sym none) ∙ ap (λ (k : ℕ). drop k (take from old) ++ drop to old) (sym place);
    }

ascends_suc : (n b x : ℕ) (xs : List ℕ) → b ≤ x → Ascends n (x ∷ xs) → Ascends b (x ∷ xs)
ascends_suc n b x xs le up = (le, up.1)

pub lifted_more : (bound from to done : ℕ) (old now : List ℕ) → from < to → to ≤ length now → length now ≡ length old → done < from → bound ≤ get_or now (from - 1 - done) 0 → Ascends 0 (take from old) → Lifted bound from to done old now
    → Lifted bound from to (done + 1) old (set now (to - 1 - done) (get_or now (from - 1 - done) 0))
lifted_more bound from to done old now lt within same less le up h =
    let i : ℕ = from - 1 - done in
    let j : ℕ = to - 1 - done in
    let x : ℕ = get_or now i 0 in
    let long : length (take from old) ≡ from = length-take-le from old (omega (arith, lt, within, same)) in
    let is : x ≡ get_or (take from old) i 0 = sym (get_or-take (from - done) now i 0 (omega (arith, less))) ∙ ap (λ (l : List ℕ). get_or l i 0) h.kept ∙ get_or-take (from - done) old i 0 (omega (arith, less)) ∙ sym (get_or-take from old i 0 (omega (arith, less))) in
    let at : from - (done + 1) ≡ i = omega arith in
    let to_at : to - (done + 1) ≡ j = omega arith in
    let next : i + 1 ≡ from - done = omega (arith, less) in
    let to_next : j + 1 ≡ to - done = omega (arith, less, lt) in
    let more : drop i (take from old) ≡ x ∷ drop (from - done) (take from old) = drop_more (take from old) i 0 (omega (arith, long, less)) ∙ ap (λ (y : ℕ). y ∷ drop (i + 1) (take from old)) (sym is) ∙ ap (λ (k : ℕ). x ∷ drop k (take from old)) next in
    let put : drop j (set now j x) ≡ x ∷ drop (to - done) now = drop-set now j x (omega (arith, within, less, lt)) ∙ ap (λ (k : ℕ). x ∷ drop k now) to_next in
    record {
      above = subst (λ (k : ℕ). Ascends bound (drop k (take from old))) (sym at) (subst (Ascends bound) (sym more) (ascends_suc 0 bound x (drop (from - done) (take from old)) le (subst (Ascends 0) more (ascends-drop 0 i (take from old) up))));
      kept = take-set-le (from - (done + 1)) now j x (omega (arith, lt, less)) ∙ sym (take-take (from - (done + 1)) (from - done) now (omega arith)) ∙ ap (λ (l : List ℕ). take (from - (done + 1)) l) h.kept ∙ take-take (from - (done + 1)) (from - done) old (omega arith);
      copied = ap (λ (k : ℕ). drop k (set now j x)) to_at ∙ put ∙ ap (λ (l : List ℕ). x ∷ l) h.copied ∙ ap (λ (l : List ℕ). l ++ drop to old) (sym more) ∙ ap (λ (k : ℕ). drop k (take from old) ++ drop to old) (sym at);
    }

ascends-take : (n k : ℕ) (xs : List ℕ) → Ascends n xs → Ascends n (take k xs)
ascends-take n zero xs up = tt
ascends-take n (suc k) [] up = tt
ascends-take n (suc k) (x ∷ xs) up = (up.0, ascends-take (suc x) k xs up.1)

-- the last of the others is below it, and so all are
below_up : (n bound : ℕ) (xs : List ℕ) → Ascends n xs → (0 < length xs → get_or xs (length xs - 1) 0 < bound) → Below bound xs
below_up n bound [] up last = tt
below_up n bound (x ∷ []) up last = (last (omega arith), tt)
below_up n bound (x ∷ (y ∷ xs)) up last =
    let at : length (x ∷ (y ∷ xs)) - 1 ≡ suc (length (y ∷ xs) - 1) = omega arith in
    let same : get_or (x ∷ (y ∷ xs)) (length (x ∷ (y ∷ xs)) - 1) 0 ≡ get_or (y ∷ xs) (length (y ∷ xs) - 1) 0 = ap (λ (k : ℕ). get_or (x ∷ (y ∷ xs)) k 0) at in
    let rest = below_up (suc x) bound (y ∷ xs) up.1 (λ some. omega (arith, same, last (omega arith))) in
    (omega (arith, rest.0, up.1.0), rest)

pub all_below : (bound from done : ℕ) (old now : List ℕ) → from ≤ length old → done ≤ from → take (from - done) now ≡ take (from - done) old → (done < from → get_or now (from - 1 - done) 0 < bound) → Ascends 0 (take from old) → Below bound (take (from - done) old)
all_below bound from done old now fits within kept last up =
    let n : ℕ = from - done in
    let long : length (take n old) ≡ n = length-take-le n old (omega (arith, fits)) in
    let front : Ascends 0 (take n old) = subst (Ascends 0) (take-take n from old (omega arith)) (ascends-take 0 n (take from old) up) in
    below_up 0 bound (take n old) front
    (λ some.
    let here : length (take n old) - 1 ≡ from - 1 - done = omega (arith, long) in
    let is : get_or (take n old) (length (take n old) - 1) 0 ≡ get_or now (from - 1 - done) 0 = ap (λ (k : ℕ). get_or (take n old) k 0) here ∙ ap (λ (l : List ℕ). get_or l (from - 1 - done) 0) (sym kept) ∙ get_or-take n now (from - 1 - done) 0 (omega (arith, some, long)) in
    omega (arith, is, last (omega (arith, some, long))))
