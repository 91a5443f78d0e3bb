-- Numbers that are sorted, each once, and the lists of a quotient.
use Rattle.std.proofs.Common.{◌≡◌, ℕ, zero, suc, ◌+◌, ◌<◌, ◌≤◌, true, eqb, List, [], ◌∷◌, length, get_or, refl, sym, subst, ◌∙◌, arith, inl, inr, Result, Ok, Err, OnOk}
use Rattle.std.specs.List.{Contains, dedup}
use Rattle.std.specs.List.Sorted.{IsSorted, IsPermutation, IsStrictlyIncreasing}
use Rattle.std.specs.Ordering.{nat_cmp}
use Rattle.std.proofs.lemmas.Bool.{cases_Bool, eq-eqb, eqb-true}
use Rattle.std.proofs.lemmas.List.Kept.{Contains-dedup_nat, Contains-from_dedup}
use Rattle.std.proofs.lemmas.List.Sorted.{Contains-permutation, IsPermutation-sym}
use Rattle.std.proofs.lemmas.Map.Keys.{IsStrictlyIncreasing-dedup}
use Rattle.wg_graph.specs.Ascending.{Ascends, Below}
use Rattle.wg_graph.specs.Numbers.{is_in}
use Rattle.wg_graph.specs.Digraph.{successors}
use Rattle.wg_graph.proofs.Sets.{ascending_is, where_same, in_head}
use Rattle.wg_transpose.proofs.Seen.{member_below}
use Rattle.wg_shape.specs.Quotient.{leads, members}
use Rattle.wg_shape.specs.Classes.{Classes, AreClasses, whole, reached_by}
use Rattle.wg_shape.proofs.Quotients.{arc_to, list_of, reached_from, same_bool}

-- ---- members

in_behind : (y x : ℕ) (xs : List ℕ) → is_in y xs ≡ true → is_in y (x ∷ xs) ≡ true
in_behind y x xs h = grind arith

at_in : (xs : List ℕ) (y k : ℕ) → k < length xs → get_or xs k y ≡ y → is_in y xs ≡ true
at_in [] y k lt is = absurd (omega arith)
at_in (x ∷ xs) y zero lt is = rw (eq-eqb y x (sym is)) refl
at_in (x ∷ xs) y (suc k) lt is = in_behind y x xs (at_in xs y k (omega arith) is)

contains_in : (xs : List ℕ) (y : ℕ) → Contains xs y → is_in y xs ≡ true
contains_in xs y h = at_in xs y h.0 h.1 h.2

in_contains : (xs : List ℕ) (y : ℕ) → is_in y xs ≡ true → Contains xs y
in_contains [] y h = absurd cc
in_contains (x ∷ xs) y h =
    elim (cases_Bool (eqb y x)) [
      | inl e ↦ (0, omega arith, sym (eqb-true y x e))
      | inr e ↦ let rest = in_contains xs y (rw e at h) in (suc rest.0, omega (arith, rest.1), rest.2)
    ]

pub below_from : (n : ℕ) (xs : List ℕ) → ((y : ℕ) → is_in y xs ≡ true → y < n) → Below n xs
below_from n [] each = tt
below_from n (x ∷ xs) each = (each x (in_head x xs), below_from n xs (λ y h. each y (in_behind y x xs h)))

-- ---- sorted, each once

rising_ascends : (n : ℕ) (xs : List ℕ) → IsStrictlyIncreasing xs → (0 < length xs → n ≤ get_or xs 0 0) → Ascends n xs
rising_ascends n [] up low = tt
rising_ascends n (x ∷ xs) up low =
    let rest : IsStrictlyIncreasing xs = λ k lt.
    let e : suc k + 1 ≡ suc (k + 1) = omega arith in
    subst (λ (m : ℕ). get_or xs k 0 < get_or (x ∷ xs) m 0) e (up (suc k) (omega arith)) in
    (low (omega arith), rising_ascends (suc x) xs rest (λ some. up 0 (omega arith)))

pub set_ascends : (sorted : List ℕ) → IsSorted nat_cmp sorted → Ascends 0 (dedup eqb sorted)
set_ascends sorted h = rising_ascends 0 (dedup eqb sorted) (IsStrictlyIncreasing-dedup sorted h) (λ some. omega arith)

pub set_members : (numbers sorted : List ℕ) → IsPermutation numbers sorted → (y : ℕ) → is_in y (dedup eqb sorted) ≡ is_in y numbers
set_members numbers sorted moved y =
    same_bool (is_in y (dedup eqb sorted)) (is_in y numbers)
    (λ h. contains_in numbers y (Contains-permutation sorted numbers y (IsPermutation-sym numbers sorted moved) (Contains-from_dedup eqb sorted y (in_contains (dedup eqb sorted) y h))))
    (λ h. contains_in (dedup eqb sorted) y (Contains-dedup_nat sorted y (Contains-permutation numbers sorted y moved (in_contains numbers y h))))

-- ---- the list of a class

module _ (p : Classes) (ok : AreClasses p) (i : ℕ) (lt : i < p.count) (list : List ℕ) (up : Ascends 0 list) (same : (y : ℕ) → is_in y list ≡ is_in y (reached_by p.graph p.classes i)) where
  reached_low : (y : ℕ) → is_in y list ≡ true → y < p.count
  reached_low y h =
      let way = reached_from p.graph p.classes y (members p.classes i) (sym (same y) ∙ h) in
      let target = arc_to p.graph ok.proper way.0 way.1 way.3 in
      omega (arith, way.4, member_below p.count way.1 p.classes ok.below (omega (arith, target, ok.each)))

  pub list_below : Below p.count list
  list_below = below_from p.count list reached_low

  pub list_is : list ≡ successors (whole p) i
  list_is =
      let e : p.count ≡ 0 + p.count = omega arith in
      ascending_is 0 p.count list up (subst (λ (m : ℕ). Below m list) e list_below)
      ∙ where_same (λ y. is_in y list) (leads p.graph p.classes i) 0 p.count (λ y low high. same y)
      ∙ sym (list_of p.graph p.classes p.count i lt)

pub both_ok : {X E A B C : Type 0} (r : Result X E) → (A → B → C) → OnOk r A → OnOk r B → OnOk r C
both_ok (Ok x) f a b = f a b
both_ok (Err e) f a b = tt
