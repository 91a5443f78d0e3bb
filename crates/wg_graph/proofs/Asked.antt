-- Ascending numbers, looked up one after the other in an ascending list.
use Rattle.std.proofs.Common.{◌≡◌, ℕ, zero, suc, ◌+◌, ◌≤◌, true, eqb, ltb, List, [], ◌∷◌, drop, refl, sym, ap, subst, ◌∙◌, arith, inl, inr}
use Rattle.std.specs.List.{prefix_len}
use Rattle.std.proofs.lemmas.Bool.{cases_Bool, cases_eq, ltb-true, ltb-false, eq-eqb, ne_eqb}
use Rattle.wg_graph.specs.Numbers.{is_in, begins_with}
use Rattle.wg_graph.specs.Ascending.{Ascends}
use Rattle.wg_graph.proofs.Sets.{ascends_more, in_below, in_tail}

pub ascends-drop : (n k : ℕ) (xs : List ℕ) → Ascends n xs → Ascends n (drop k xs)
ascends-drop n zero xs up = up
ascends-drop n (suc k) [] up = tt
ascends-drop n (suc k) (x ∷ xs) up = ascends_more n (suc x) (drop k xs) (omega (arith, up.0)) (ascends-drop (suc x) k xs up.1)

-- without the numbers below y at its front
abbrev pub from_on : ℕ → List ℕ → List ℕ
from_on y xs = drop (prefix_len (λ x. ltb x y) xs) xs

from_on_less : (y x : ℕ) (xs : List ℕ) → ltb x y ≡ true → from_on y (x ∷ xs) ≡ from_on y xs
from_on_less y x xs h = rw h (ap (λ k. drop k (x ∷ xs)) (let e : 1 + prefix_len (λ z. ltb z y) xs ≡ suc (prefix_len (λ z. ltb z y) xs) = omega arith in e))

-- what is not below y is found in the rest
pub in_from_on : (y z : ℕ) (xs : List ℕ) → y ≤ z → is_in z (from_on y xs) ≡ is_in z xs
in_from_on y z [] le = refl
in_from_on y z (x ∷ xs) le =
    elim (cases_Bool (ltb x y)) [
      | inl h ↦ let lt = ltb-true x y h in ap (is_in z) (from_on_less y x xs h) ∙ in_from_on y z xs le ∙ sym (in_tail x z xs (omega (arith, lt)))
      | inr h ↦ rw h refl
    ]

head_is : (n y x : ℕ) (xs : List ℕ) → y ≤ x → Ascends (suc x) xs → eqb x y ≡ is_in y (x ∷ xs)
head_is n y x xs le up =
    elim (cases_eq x y) [
      | inl same ↦ rw (eq-eqb x y same, eq-eqb y x (sym same)) refl
      | inr other ↦ rw (ne_eqb x y other, ne_eqb y x (λ e. other (sym e)), in_below (suc x) y xs up (omega arith)) refl
    ]

-- y is a member if the rest begins with it
pub begins_from_on : (n y : ℕ) (xs : List ℕ) → Ascends n xs → begins_with y (from_on y xs) ≡ is_in y xs
begins_from_on n y [] up = refl
begins_from_on n y (x ∷ xs) up =
    elim (cases_Bool (ltb x y)) [
      | inl h ↦ let lt = ltb-true x y h in ap (begins_with y) (from_on_less y x xs h) ∙ begins_from_on (suc x) y xs up.1 ∙ sym (in_tail x y xs (omega (arith, lt)))
      | inr h ↦ let le = ltb-false x y h in rw h (head_is n y x xs le up.1)
    ]

-- the numbers behind the first
pub ascends-rest : (x : ℕ) (xs rest : List ℕ) → xs ≡ x ∷ rest → Ascends 0 xs → Ascends 0 rest
ascends-rest x xs rest split up = let both : Ascends 0 (x ∷ rest) = subst (Ascends 0) split up in ascends_more 0 (suc x) rest (omega arith) both.1
