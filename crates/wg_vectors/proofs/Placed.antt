-- A number that is put into an ascending list.
use Rattle.std.proofs.Common.{◌≡◌, ℕ, zero, suc, ◌+◌, ◌<◌, ◌≤◌, List, [], ◌∷◌, length, get_or, Result, Ok, Err, refl, sym, ap, subst, ◌∙◌, arith, inl, inr, eq-eqb, ne_eqb}
use Rattle.std.specs.List.{insert}
use Rattle.std.specs.Ordering.{nat_cmp}
use Rattle.std.specs.List.Sorted.{IsBinarySearchResult}
use Rattle.std.proofs.lemmas.List.Sorted.{searched}
use Rattle.std.proofs.lemmas.Bool.{cases_lt, cases_eq, lt-ltb, le-ltb}
use Rattle.wg_graph.specs.Ascending.{Ascends, Below}
use Rattle.wg_vectors.specs.Generated.{with_number}

-- ---- where it goes

before_head : (y x : ℕ) (xs : List ℕ) → y < x → with_number y (x ∷ xs) ≡ y ∷ x ∷ xs
before_head y x xs lt = rw (lt-ltb y x lt) refl

at_head : (y x : ℕ) (xs : List ℕ) → y ≡ x → with_number y (x ∷ xs) ≡ x ∷ xs
at_head y x xs e = rw (le-ltb y x (omega arith), eq-eqb y x e) refl

past_head : (y x : ℕ) (xs : List ℕ) → x < y → with_number y (x ∷ xs) ≡ x ∷ with_number y xs
past_head y x xs lt = rw (le-ltb y x (omega arith), ne_eqb y x (λ e. omega arith)) refl

-- a number that is not there goes behind the smaller ones
pub placed : (y : ℕ) (xs : List ℕ) (i : ℕ) → i ≤ length xs → ((k : ℕ) → k < i → get_or xs k 0 < y) → ((k : ℕ) → i ≤ k → k < length xs → y < get_or xs k 0) → insert xs i y ≡ with_number y xs
placed y [] zero le small large = refl
placed y [] (suc i) le small large = absurd (omega arith)
placed y (x ∷ xs) zero le small large = sym (before_head y x xs (large zero (omega arith) (omega arith)))
placed y (x ∷ xs) (suc i) le small large =
    ap (λ (l : List ℕ). x ∷ l) (placed y xs i (omega arith) (λ k lt. small (suc k) (omega arith)) (λ k from lt. large (suc k) (omega arith) (omega arith)))
    ∙ sym (past_head y x xs (small zero (omega arith)))

ascends_at : (n : ℕ) (xs : List ℕ) (i : ℕ) → Ascends n xs → i < length xs → n ≤ get_or xs i 0
ascends_at n [] i up lt = absurd (omega arith)
ascends_at n (x ∷ xs) zero up lt = up.0
ascends_at n (x ∷ xs) (suc i) up lt = let le = ascends_at (suc x) xs i up.1 (omega arith) in omega (arith, up.0)

pub rises : (n : ℕ) (xs : List ℕ) → Ascends n xs → (i j : ℕ) → i ≤ j → j < length xs → get_or xs i 0 ≤ get_or xs j 0
rises n [] up i j le lt = absurd (omega arith)
rises n (x ∷ xs) up zero zero le lt = omega arith
rises n (x ∷ xs) up zero (suc j) le lt = let h = ascends_at (suc x) xs j up.1 (omega arith) in omega arith
rises n (x ∷ xs) up (suc i) zero le lt = absurd (omega arith)
rises n (x ∷ xs) up (suc i) (suc j) le lt = rises (suc x) xs up.1 i j (omega arith) (omega arith)

-- a number that is there changes nothing
pub there : (n y : ℕ) (xs : List ℕ) (i : ℕ) → Ascends n xs → i < length xs → get_or xs i 0 ≡ y → with_number y xs ≡ xs
there n y [] i up lt is = absurd (omega arith)
there n y (x ∷ xs) zero up lt is = at_head y x xs (sym is)
there n y (x ∷ xs) (suc i) up lt is =
    let h = ascends_at (suc x) xs i up.1 (omega arith) in
    past_head y x xs (omega (arith, is)) ∙ ap (λ (l : List ℕ). x ∷ l) (there (suc x) y xs i up.1 (omega arith) is)

-- ---- where a search finds its place

pub goes : (y : ℕ) (list slice new : List ℕ) (place : ℕ) → Ascends 0 list → slice ≡ list → IsBinarySearchResult (λ x. nat_cmp x y) slice (Err place) → new ≡ insert list place y → new ≡ with_number y list
goes y list slice new place up is found new_is =
    let result : Result ℕ ℕ = Err place in
    let h = searched list y result (subst (λ (l : List ℕ). IsBinarySearchResult (λ x. nat_cmp x y) l result) is found) (rises 0 list up) in
    new_is ∙ placed y list place h.0 h.1 h.2

pub stays : (y : ℕ) (list slice : List ℕ) (place : ℕ) → Ascends 0 list → slice ≡ list → IsBinarySearchResult (λ x. nat_cmp x y) slice (Ok place) → with_number y list ≡ list
stays y list slice place up is found =
    let result : Result ℕ ℕ = Ok place in
    let h = searched list y result (subst (λ (l : List ℕ). IsBinarySearchResult (λ x. nat_cmp x y) l result) is found) (rises 0 list up) in
    there 0 y list place up h.0 h.1

-- ---- what it keeps

pub ascends-with_number : (n y : ℕ) (xs : List ℕ) → n ≤ y → Ascends n xs → Ascends n (with_number y xs)
ascends-with_number n y [] le up = (le, tt)
ascends-with_number n y (x ∷ xs) le up =
    elim (cases_lt y x) [
      | inl lt ↦ subst (Ascends n) (sym (before_head y x xs lt)) (le, (omega arith, up.1))
      | inr ge ↦ elim (cases_eq y x) [
        | inl e ↦ subst (Ascends n) (sym (at_head y x xs e)) up
        | inr ne ↦ let lt : x < y = omega arith in subst (Ascends n) (sym (past_head y x xs lt)) (up.0, ascends-with_number (suc x) y xs lt up.1)
      ]
    ]

pub below-with_number : (n y : ℕ) (xs : List ℕ) → y < n → Below n xs → Below n (with_number y xs)
below-with_number n y [] lt low = (lt, tt)
below-with_number n y (x ∷ xs) lt low =
    elim (cases_lt y x) [
      | inl less ↦ subst (Below n) (sym (before_head y x xs less)) (lt, low)
      | inr ge ↦ elim (cases_eq y x) [
        | inl e ↦ subst (Below n) (sym (at_head y x xs e)) low
        | inr ne ↦ let more : x < y = omega arith in subst (Below n) (sym (past_head y x xs more)) (low.0, below-with_number n y xs lt low.1)
      ]
    ]

pub length-with_number : (y : ℕ) (xs : List ℕ) → length (with_number y xs) ≤ length xs + 1
length-with_number y [] = omega arith
length-with_number y (x ∷ xs) =
    elim (cases_lt y x) [
      | inl lt ↦ let e = ap length (before_head y x xs lt) in omega (arith, e)
      | inr ge ↦ elim (cases_eq y x) [
        | inl same ↦ let e = ap length (at_head y x xs same) in omega (arith, e)
        | inr ne ↦ let lt : x < y = omega arith in let e = ap length (past_head y x xs lt) in let h = length-with_number y xs in omega (arith, e)
      ]
    ]
