-- Unions of ascending lists, number by number.
use Rattle.std.proofs.Common.{◌≡◌, ℕ, suc, ◌<◌, eqb, ◌||◌, List, [], ◌∷◌, Option, Some, None, refl, sym, ap, subst, ◌∙◌, arith}
use Rattle.std.proofs.lemmas.Bool.{cases_order, lt-ltb, le-ltb, ne_eqb, eq-eqb}
use Rattle.wg_graph.specs.Ascending.{Ascends, Below}
use Rattle.wg_graph.specs.Numbers.{is_in}
use Rattle.wg_graph.specs.Coming.{front, Gives}
use Rattle.wg_graph.specs.Unions.{with_number, union_of}
use Rattle.wg_graph.proofs.NumberByNumber.{union_ascends, union_first, union_second}

with_same : (x : ℕ) (ys : List ℕ) → with_number x (x ∷ ys) ≡ x ∷ ys
with_same x ys = grind (arith, le-ltb, eq-eqb)

pub union_both : (x : ℕ) (xs ys : List ℕ) → Ascends (suc x) xs → union_of (x ∷ xs) (x ∷ ys) ≡ x ∷ union_of xs ys
union_both x xs ys h = ap (with_number x) (union_second x xs ys h) ∙ with_same x (union_of xs ys)

-- ---- numbers that are taken ahead

pub front_gives : (old new : List ℕ) (answer : Option ℕ) → Gives old answer new → front answer new ≡ old
front_gives old new None h = sym h.0
front_gives old new (Some x) h = sym h

pub all_ascend : (a b now : List ℕ) → union_of a b ≡ now → Ascends 0 a → Ascends 0 b → Ascends 0 now
all_ascend a b now is up_a up_b = subst (Ascends 0) is (union_ascends 0 a b up_a up_b)

module _ (first second : Option ℕ) (a b now : List ℕ) (x : ℕ) (view : union_of (front first a) (front second b) ≡ now)
    (up_a : Ascends 0 (front first a)) (up_b : Ascends 0 (front second b)) where
  pub took_first : (answer : Option ℕ) (later : List ℕ) → first ≡ Some x → Gives a answer later → Ascends (suc x) (front second b) → now ≡ x ∷ union_of (front answer later) (front second b)
  took_first answer later is gives above =
      let up : Ascends 0 (x ∷ a) = subst (λ (o : Option ℕ). Ascends 0 (front o a)) is up_a in
      sym view ∙ ap (λ (o : Option ℕ). union_of (front o a) (front second b)) is ∙ union_first x a (front second b) up.1 above
      ∙ ap (λ (l : List ℕ). x ∷ union_of l (front second b)) (sym (front_gives a later answer gives))

  pub took_second : (answer : Option ℕ) (later : List ℕ) → second ≡ Some x → Gives b answer later → Ascends (suc x) (front first a) → now ≡ x ∷ union_of (front first a) (front answer later)
  took_second answer later is gives above =
      sym view ∙ ap (λ (o : Option ℕ). union_of (front first a) (front o b)) is ∙ union_second x (front first a) b above
      ∙ ap (λ (l : List ℕ). x ∷ union_of (front first a) l) (sym (front_gives b later answer gives))

  pub took_both : (left right : Option ℕ) (later_a later_b : List ℕ) → first ≡ Some x → second ≡ Some x → Gives a left later_a → Gives b right later_b
      → now ≡ x ∷ union_of (front left later_a) (front right later_b)
  took_both left right later_a later_b first_is second_is gives_a gives_b =
      let up : Ascends 0 (x ∷ a) = subst (λ (o : Option ℕ). Ascends 0 (front o a)) first_is up_a in
      sym view ∙ ap (λ (o : Option ℕ). union_of (front o a) (front second b)) first_is ∙ ap (λ (o : Option ℕ). union_of (x ∷ a) (front o b)) second_is ∙ union_both x a b up.1
      ∙ ap (λ (l : List ℕ). x ∷ union_of l b) (sym (front_gives a later_a left gives_a)) ∙ ap (λ (l : List ℕ). x ∷ union_of (front left later_a) l) (sym (front_gives b later_b right gives_b))

-- what a list that begins above x has is above x
pub above : (next : Option ℕ) (list : List ℕ) (y x : ℕ) → next ≡ Some y → x < y → Ascends 0 (front next list) → Ascends (suc x) (front next list)
above next list y x is lt up =
    let P : Option ℕ → Type 0 = λ (o : Option ℕ). Ascends (suc x) (front o list) in
    let here : Ascends 0 (y ∷ list) = subst (λ (o : Option ℕ). Ascends 0 (front o list)) is up in
    subst P (sym is) (lt, here.1)

pub above_none : (next : Option ℕ) (list : List ℕ) (x : ℕ) → next ≡ None → Ascends (suc x) (front next list)
above_none next list x is = let P : Option ℕ → Type 0 = λ (o : Option ℕ). Ascends (suc x) (front o list) in subst P (sym is) tt

-- ---- sets

in_with : (y x : ℕ) (ys : List ℕ) → is_in y (with_number x ys) ≡ (eqb y x || is_in y ys)
in_with y x [] = refl
in_with y x (z ∷ ys) = grind (arith, cases_order, lt-ltb, le-ltb, ne_eqb, eq-eqb, in_with y x ys)

pub in_union : (y : ℕ) (xs ys : List ℕ) → is_in y (union_of xs ys) ≡ (is_in y xs || is_in y ys)
in_union y [] ys = refl
in_union y (x ∷ xs) ys = grind (arith, in_with, in_union y xs ys)

with_below : (m x : ℕ) (ys : List ℕ) → x < m → Below m ys → Below m (with_number x ys)
with_below m x [] lt low = (lt, tt)
with_below m x (z ∷ ys) lt low = grind (arith, cases_order, lt-ltb, le-ltb, ne_eqb, eq-eqb, with_below m x ys lt low.1)

pub union_below : (m : ℕ) (xs ys : List ℕ) → Below m xs → Below m ys → Below m (union_of xs ys)
union_below m [] ys h k = k
union_below m (x ∷ xs) ys h k = with_below m x (union_of xs ys) h.0 (union_below m xs ys h.1 k)
