-- A list is what it has of a referenced list, and the rest.
use Rattle.std.proofs.Common.{◌≡◌, ℕ, ◌+◌, Bool, true, false, not, ◌&&◌, ◌||◌, eqb, List, [], ◌∷◌, length, refl, sym, ap, ◌∙◌, inl, inr, arith}
use Rattle.std.specs.Prelude.{filter}
use Rattle.std.proofs.lemmas.Bool.{cases_Bool, eqb-true}
use Rattle.wg_graph.specs.Numbers.{is_in}
use Rattle.wg_graph.specs.Ascending.{Ascends, Below}
use Rattle.wg_graph.proofs.Sets.{ascending_is, where_same, below_more}
use Rattle.wg_greedy.specs.Fields.{extras}
use Rattle.wg_greedy.proofs.Extra.{ascends-filter}
use Rattle.wg_greedy.proofs.Short.{below_filter}

and_swap : (a b : Bool) → (a && b) ≡ (b && a)
and_swap a b = grind arith

-- of the members those that pass
in_filter : (t : ℕ → Bool) (xs : List ℕ) (y : ℕ) → is_in y (filter t xs) ≡ (is_in y xs && t y)
in_filter t [] y = refl
in_filter t (x ∷ xs) y =
    let rest = in_filter t xs y in
    elim (cases_Bool (eqb y x)) [
      | inl e ↦
          let same : t y ≡ t x = ap t (eqb-true y x e) in
          elim (cases_Bool (t x)) [ inl h ↦ rw (same, h, e) refl | inr h ↦ rw (same, h, e, rest, same, h) (none_left (is_in y xs)) ]
      | inr e ↦ elim (cases_Bool (t x)) [ inl h ↦ rw (h, e) rest | inr h ↦ rw (h, e) rest ]
    ]
  where
    none_left : (b : Bool) → (b && false) ≡ false
    none_left true = refl
    none_left false = refl

from_0 : (n : ℕ) (xs : List ℕ) → Below n xs → Below (0 + n) xs
from_0 n xs low = below_more n (0 + n) xs (omega arith) low

-- two ascending lists have the same members in common, whichever is looked through
common_same : (n : ℕ) (xs ys : List ℕ) → Ascends 0 xs → Below n xs → Ascends 0 ys → Below n ys → filter (λ y. is_in y xs) ys ≡ filter (λ y. is_in y ys) xs
common_same n xs ys up low up' low' =
    let kept : List ℕ = filter (λ y. is_in y xs) ys in
    let seen : List ℕ = filter (λ y. is_in y ys) xs in
    ascending_is 0 n kept (ascends-filter (λ y. is_in y xs) 0 ys up') (from_0 n kept (below_filter (λ y. is_in y xs) n ys low'))
    ∙ where_same (λ y. is_in y kept) (λ y. is_in y seen) 0 n (λ y first last. in_filter (λ y. is_in y xs) ys y ∙ and_swap (is_in y ys) (is_in y xs) ∙ sym (in_filter (λ y. is_in y ys) xs y))
    ∙ sym (ascending_is 0 n seen (ascends-filter (λ y. is_in y ys) 0 xs up) (from_0 n seen (below_filter (λ y. is_in y ys) n xs low)))

passing_or_not : (t : ℕ → Bool) (xs : List ℕ) → length (filter t xs) + length (filter (λ y. not (t y)) xs) ≡ length xs
passing_or_not t [] = refl
passing_or_not t (x ∷ xs) = let rest = passing_or_not t xs in elim (cases_Bool (t x)) [ inl h ↦ rw h (omega (arith, rest)) | inr h ↦ rw h (omega (arith, rest)) ]

-- what is copied, and how many are not
pub copied_and_extra : (n : ℕ) (list referenced : List ℕ) → Ascends 0 list → Below n list → Ascends 0 referenced → Below n referenced
    → length (filter (λ y. is_in y list) referenced) + length (extras list referenced) ≡ length list
copied_and_extra n list referenced up low up' low' = grind (arith, common_same, passing_or_not)

-- a member is copied or extra
pub copied_or_extra : (list referenced : List ℕ) (y : ℕ) → (is_in y (filter (λ z. is_in z list) referenced) || is_in y (extras list referenced)) ≡ is_in y list
copied_or_extra list referenced y =
    rw (in_filter (λ z. is_in z list) referenced y, in_filter (λ z. not (is_in z referenced)) list y) (by_cases (is_in y list) (is_in y referenced))
  where
    by_cases : (a b : Bool) → (b && a || a && not b) ≡ a
    by_cases true true = refl
    by_cases true false = refl
    by_cases false true = refl
    by_cases false false = refl
