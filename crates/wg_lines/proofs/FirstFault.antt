-- The first fault of some lines.
use Rattle.std.proofs.Common.{◌≡◌, ℕ, ◌<◌, Option, Some, None, sym, ap, ◌∙◌, arith, inl, inr}
use Rattle.std.proofs.lemmas.Bool.{cases_lt, cases_eq}
use Rattle.std.proofs.lemmas.Option.{none-some, same_Some}

-- there is only one
pub first_is_one : {K : Type 0} (fault : ℕ → Option K) (i j : ℕ) (k l : K) → fault i ≡ Some k → fault j ≡ Some l
    → ((x : ℕ) → x < i → fault x ≡ None) → ((x : ℕ) → x < j → fault x ≡ None) → (i ≡ j) × (k ≡ l)
first_is_one fault i j k l here there before sooner =
    elim (cases_eq i j) [
      | inl same ↦ (same, same_Some k l (sym here ∙ ap fault same ∙ there))
      | inr ne ↦ elim (cases_lt i j) [
        | inl lt ↦ absurd (none-some k (sym (sooner i lt) ∙ here))
        | inr le ↦ absurd (none-some l (sym (before j (omega arith)) ∙ there))
      ]
    ]
