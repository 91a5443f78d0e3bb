-- Unions of ascending lists, number by number.
use Rattle.std.proofs.Common.{◌≡◌, ℕ, suc, ◌<◌, ◌≤◌, inl, inr, List, [], ◌∷◌, refl, ap, ◌∙◌, arith}
use Rattle.std.proofs.lemmas.Bool.{cases_lt, cases_eq, lt-ltb, le-ltb, ne_eqb, eq-eqb}
use Rattle.wg_graph.specs.Ascending.{Ascends}
use Rattle.wg_graph.proofs.Sets.{ascends_more}
use Rattle.wg_graph.specs.Unions.{with_number, union_of}

with_ascends : (n x : ℕ) (ys : List ℕ) → n ≤ x → Ascends n ys → Ascends n (with_number x ys)
with_ascends n x [] le h = (le, tt)
with_ascends n x (y ∷ ys) le h =
    elim (cases_lt x y) [
      | inl lt ↦ rw (lt-ltb x y lt) (le, (lt, h.1))
      | inr ge ↦ elim (cases_eq x y) [
        | inl e ↦ rw (le-ltb x y ge, eq-eqb x y e) h
        | inr ne ↦ rw (le-ltb x y ge, ne_eqb x y ne) (h.0, with_ascends (suc y) x ys (omega arith) h.1)
      ]
    ]

pub union_ascends : (n : ℕ) (xs ys : List ℕ) → Ascends n xs → Ascends n ys → Ascends n (union_of xs ys)
union_ascends n [] ys h k = k
union_ascends n (x ∷ xs) ys h k = let le = h.0 in with_ascends n x (union_of xs ys) le (union_ascends n xs ys (ascends_more n (suc x) xs (omega (arith, le)) h.1) k)

with_first : (x : ℕ) (ys : List ℕ) → Ascends (suc x) ys → with_number x ys ≡ x ∷ ys
with_first x [] h = refl
with_first x (y ∷ ys) h = let lt = h.0 in rw (lt-ltb x y lt) refl

with_later : (a x : ℕ) (ys : List ℕ) → x < a → with_number a (x ∷ ys) ≡ x ∷ with_number a ys
with_later a x ys lt = rw (le-ltb a x (omega arith), ne_eqb a x (λ e. omega arith)) refl

pub union_first : (x : ℕ) (xs ys : List ℕ) → Ascends (suc x) xs → Ascends (suc x) ys → union_of (x ∷ xs) ys ≡ x ∷ union_of xs ys
union_first x xs ys h k = with_first x (union_of xs ys) (union_ascends (suc x) xs ys h k)

pub union_second : (x : ℕ) (xs ys : List ℕ) → Ascends (suc x) xs → union_of xs (x ∷ ys) ≡ x ∷ union_of xs ys
union_second x [] ys h = refl
union_second x (a ∷ xs) ys h =
    let lt = h.0 in
    ap (with_number a) (union_second x xs ys (ascends_more (suc x) (suc a) xs (omega (arith, lt)) h.1)) ∙ with_later a x (union_of xs ys) lt
