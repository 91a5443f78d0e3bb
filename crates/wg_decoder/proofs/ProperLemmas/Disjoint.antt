-- Lists that share no number.
use Rattle.std.proofs.Common.{◌≡◌, ℕ, true, false, eqb, inl, inr, List, ◌∷◌, refl, sym, ◌∙◌}
use Rattle.std.proofs.lemmas.Bool.{cases_Bool}
use Rattle.wg_graph.specs.Numbers.{is_in}
use Rattle.wg_graph.proofs.Sets.{in_head}
use Rattle.wg_decoder.specs.Proper.Disjoint.{ShareNone}

in_more : (y x : ℕ) (xs : List ℕ) → is_in y xs ≡ true → is_in y (x ∷ xs) ≡ true
in_more y x xs h = elim (cases_Bool (eqb y x)) [ inl e ↦ rw e refl | inr e ↦ rw e h ]

in_less : (y x : ℕ) (xs : List ℕ) → is_in y (x ∷ xs) ≡ false → is_in y xs ≡ false
in_less y x xs h = elim (cases_Bool (is_in y xs)) [
  | inl so ↦ absurd (let e : true ≡ false = sym (in_more y x xs so) ∙ h in cc)
  | inr e ↦ e
]

pub share_head : (x : ℕ) (xs ys : List ℕ) → ShareNone (x ∷ xs) ys → is_in x ys ≡ false
share_head x xs ys h = h x (in_head x xs)

pub share_tail : (x : ℕ) (xs ys : List ℕ) → ShareNone (x ∷ xs) ys → ShareNone xs ys
share_tail x xs ys h y is = h y (in_more y x xs is)

pub head_shared : (x : ℕ) (xs ys : List ℕ) → ShareNone xs (x ∷ ys) → is_in x xs ≡ false
head_shared x xs ys h = elim (cases_Bool (is_in x xs)) [
  | inl so ↦ absurd (let e : true ≡ false = sym (in_head x ys) ∙ h x so in cc)
  | inr e ↦ e
]

pub tail_shared : (x : ℕ) (xs ys : List ℕ) → ShareNone xs (x ∷ ys) → ShareNone xs ys
tail_shared x xs ys h y is = in_less y x ys (h y is)
