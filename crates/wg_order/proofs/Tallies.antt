-- How many upper bounds are below each of falling lower bounds.
use Rattle.std.specs.List.{count_by, sum}
use Rattle.std.specs.List.Sorted.{IsPartitionedBy}
use Rattle.std.proofs.Common.{ℕ, zero, suc, ◌≡◌, ◌-◌, ◌+◌, ◌<◌, ◌≤◌, List, [], ◌∷◌, length, get_or, take, drop, set, nat_lt, replicate, Bool, true, false, sym, ap, subst, arith, ◌∙◌, inl, inr}
use Rattle.std.proofs.lemmas.Bool.{cases_lt, cases_eq, cases_Bool, lt-ltb, le-ltb, both_ways}
use Rattle.std.proofs.lemmas.List.{drop-set-lt, drop-set-add, get_or-drop, get_or-set_same, get_or-set_other, length-drop, drop-replicate}
use Rattle.std.proofs.lemmas.List.Folds.{sum_by-replicate}
use Rattle.std.proofs.lemmas.List.Sums.{sum_by-cons, sum_by-set, sum_by-drop_more, sum_by-take-drop, sum_by_more}
use Rattle.wg_order.proofs.Counts.{one, count_none, falling_parts}

-- ---- the numbers that pass a test, if they come first

ltb_next : (i n : ℕ) → nat_lt (suc i) (1 + n) ≡ nat_lt i n
ltb_next i n =
    elim (cases_lt i n) [
      | inl l ↦ lt-ltb (suc i) (1 + n) (omega arith) ∙ sym (lt-ltb i n l)
      | inr m ↦ le-ltb (suc i) (1 + n) (omega arith) ∙ sym (le-ltb i n m)
    ]

false_from : (b : Bool) → (b ≡ true → ⊥) → b ≡ false
false_from b h = elim (cases_Bool b) [ inl t ↦ absurd (h t) | inr f ↦ f ]

passes : (p : ℕ → Bool) (x : ℕ) (xs : List ℕ) (i : ℕ) → p x ≡ true → ((k : ℕ) → k < length xs → nat_lt k (count_by p xs) ≡ p (get_or xs k 0)) → i < length (x ∷ xs)
    → nat_lt i (count_by p (x ∷ xs)) ≡ p (get_or (x ∷ xs) i 0)
passes p x xs zero t h w =
    let c : count_by p (x ∷ xs) ≡ 1 + count_by p xs = sum_by-cons (λ y. one (p y)) x xs ∙ ap (λ b. one b + count_by p xs) t in
    lt-ltb 0 (count_by p (x ∷ xs)) (omega (arith, c)) ∙ sym t
passes p x xs (suc i) t h w =
    let c : count_by p (x ∷ xs) ≡ 1 + count_by p xs = sum_by-cons (λ y. one (p y)) x xs ∙ ap (λ b. one b + count_by p xs) t in
    ap (nat_lt (suc i)) c ∙ ltb_next i (count_by p xs) ∙ h i (omega arith)

fails : (p : ℕ → Bool) (x : ℕ) (xs : List ℕ) → p x ≡ false → IsPartitionedBy p (x ∷ xs) → (k d : ℕ) → k < length (x ∷ xs) → p (get_or (x ∷ xs) k d) ≡ false
fails p x xs f h k d w = false_from (p (get_or (x ∷ xs) k d)) (λ t. both_ways (p x) f (h 0 k d (omega arith) w t))

pub first_pass : (p : ℕ → Bool) (xs : List ℕ) → IsPartitionedBy p xs → (i : ℕ) → i < length xs → nat_lt i (count_by p xs) ≡ p (get_or xs i 0)
first_pass p [] h i w = absurd (omega arith)
first_pass p (x ∷ xs) h i w =
    elim (cases_Bool (p x)) [
      | inl t ↦ passes p x xs i t (first_pass p xs (λ a b d l v s. h (suc a) (suc b) d (omega arith) (omega arith) s)) w
      | inr f ↦
          let c : count_by p (x ∷ xs) ≡ 0 = count_none p (x ∷ xs) (fails p x xs f h) in
          le-ltb i (count_by p (x ∷ xs)) (omega (arith, c)) ∙ sym (fails p x xs f h i 0 w)
    ]

-- ---- a sum from a place on, if one number is raised

pub raised : (xs : List ℕ) (i k y : ℕ) → k < length xs → y ≡ get_or xs k 0 + 1 → sum (drop i (set xs k y)) ≡ sum (drop i xs) + one (nat_lt i (k + 1))
raised xs i k y w e =
    elim (cases_lt k i) [
      | inl l ↦
          let t : nat_lt i (k + 1) ≡ false = le-ltb i (k + 1) (omega arith) in
          let d : sum (drop i (set xs k y)) ≡ sum (drop i xs) = ap sum (drop-set-lt i xs k y l) in
          omega (arith, d, ap one t)
      | inr m ↦
          let t : nat_lt i (k + 1) ≡ true = lt-ltb i (k + 1) (omega arith) in
          let at : i + (k - i) ≡ k = omega arith in
          let d : sum (drop i (set xs k y)) ≡ sum (set (drop i xs) (k - i) y) =
          ap (λ (j : ℕ). sum (drop i (set xs j y))) (sym at) ∙ ap sum (drop-set-add i xs (k - i) y) in
          let here : get_or (drop i xs) (k - i) 0 ≡ get_or xs k 0 = get_or-drop i xs (k - i) 0 ∙ ap (λ (j : ℕ). get_or xs j 0) at in
          omega (arith, d, ap one t, here, e, sum_by-set (λ x. x) (drop i xs) (k - i) y 0 (omega (arith, length-drop i xs)))
    ]

-- one upper bound more is counted at the last page whose lower bound is above it
module _ (n : ℕ → ℕ) (pages high : List ℕ) (falls : (i j : ℕ) → i ≤ j → j < length pages → n (get_or pages j 0) ≤ n (get_or pages i 0)) where
  pub here : (x above : ℕ) → above ≡ count_by (λ u. nat_lt x (n u)) pages → (i : ℕ) → i < length pages → nat_lt i above ≡ nat_lt x (n (get_or pages i 0))
  here x above e i w = ap (nat_lt i) e ∙ first_pass (λ u. nat_lt x (n u)) pages (falling_parts n pages x falls) i w

  pub counted : (xs : List ℕ) (k x above : ℕ) → k < length high → x ≡ get_or high k 0 → above ≡ count_by (λ u. nat_lt x (n u)) pages → 0 < above → above ≤ length xs
      → ((i : ℕ) → i < length pages → sum (drop i xs) ≡ count_by (λ h. nat_lt h (n (get_or pages i 0))) (take k high))
      → (y : ℕ) → y ≡ get_or xs (above - 1) 0 + 1
      → (i : ℕ) → i < length pages → sum (drop i (set xs (above - 1) y)) ≡ count_by (λ h. nat_lt h (n (get_or pages i 0))) (take (k + 1) high)
  counted xs k x above w f e some room h y v i l =
      let q = λ (b : ℕ). nat_lt b (n (get_or pages i 0)) in
      let up : sum (drop i (set xs (above - 1) y)) ≡ sum (drop i xs) + one (nat_lt i (above - 1 + 1)) = raised xs i (above - 1) y (omega arith) v in
      let last : one (nat_lt i (above - 1 + 1)) ≡ one (nat_lt i above) = ap (λ (a : ℕ). one (nat_lt i a)) (omega arith) in
      let same_test : one (nat_lt i above) ≡ one (q (get_or high k 0)) = ap one (here x above e i l) ∙ ap (λ (b : ℕ). one (q b)) f in
      omega (arith, up, last, same_test, h i l, sum_by_more (λ b. one (q b)) high k 0 w)

  pub uncounted : (xs : List ℕ) (k x above : ℕ) → k < length high → x ≡ get_or high k 0 → above ≡ count_by (λ u. nat_lt x (n u)) pages → above ≡ 0
      → ((i : ℕ) → i < length pages → sum (drop i xs) ≡ count_by (λ h. nat_lt h (n (get_or pages i 0))) (take k high))
      → (i : ℕ) → i < length pages → sum (drop i xs) ≡ count_by (λ h. nat_lt h (n (get_or pages i 0))) (take (k + 1) high)
  uncounted xs k x above w f e none h i l =
      let q = λ (b : ℕ). nat_lt b (n (get_or pages i 0)) in
      let no : one (nat_lt i above) ≡ 0 = ap one (le-ltb i above (omega arith)) in
      let same_test : one (nat_lt i above) ≡ one (q (get_or high k 0)) = ap one (here x above e i l) ∙ ap (λ (b : ℕ). one (q b)) f in
      omega (arith, no, same_test, h i l, sum_by_more (λ b. one (q b)) high k 0 w)

-- the sum of all has grown by one
pub one_more : (xs : List ℕ) (k y : ℕ) → k < length xs → y ≡ get_or xs k 0 + 1 → sum (set xs k y) ≡ sum xs + 1
one_more xs k y w e = omega (arith, e, sum_by-set (λ x. x) xs k y 0 w)

-- a number is within the sum from its place on, and that within the sum of all
pub within_sum : (xs : List ℕ) (i : ℕ) → i < length xs → get_or xs i 0 + sum (drop (i + 1) xs) ≤ sum xs
within_sum xs i w = omega (arith, sum_by-drop_more (λ x. x) xs i 0 w, sum_by-take-drop (λ x. x) xs i)

-- ---- sums from each place on

-- from place i on each number is the sum of the old ones from there on
pub record AreAdded (old now : List ℕ) (total i : ℕ) : Type 0 where
  pub total_is : total ≡ sum (drop i old)
  pub added : (j : ℕ) → i ≤ j → j < length old → get_or now j 0 ≡ sum (drop j old)
  pub left : (j : ℕ) → j < i → get_or now j 0 ≡ get_or old j 0

pub added_next : (old now : List ℕ) (total i y : ℕ) → i < length old → length now ≡ length old → AreAdded old now total (i + 1) → y ≡ total + get_or now i 0
    → AreAdded old (set now i y) y i
added_next old now total i y w size a e =
    let here : y ≡ sum (drop i old) = omega (arith, e, a.left i (omega arith), a.total_is, sum_by-drop_more (λ x. x) old i 0 w) in
    record {
      total_is = here;
      added = λ j l v.
          elim (cases_eq j i) [
            | inl s ↦ subst (λ (k : ℕ). get_or (set now i y) k 0 ≡ sum (drop k old)) (sym s) (get_or-set_same now i y 0 (omega arith) ∙ here)
            | inr ne ↦ get_or-set_other now i j y 0 ne ∙ a.added j (omega (arith, l, ne)) v
          ];
      left = λ j l. get_or-set_other now i j y 0 (λ s. omega arith) ∙ a.left j (omega arith);
    }

-- zeros add up to zero
pub zeros : (n i : ℕ) (xs : List ℕ) → xs ≡ replicate n 0 → sum (drop i xs) ≡ 0
zeros n i xs e = ap (λ (ys : List ℕ). sum (drop i ys)) e ∙ ap sum (drop-replicate i n 0) ∙ sum_by-replicate (λ x. x) (n - i) 0 ∙ omega arith
