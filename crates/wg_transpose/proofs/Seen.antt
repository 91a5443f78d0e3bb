-- The lists of predecessors while the arcs of one page are gone through.
use Rattle.std.proofs.Common.{◌≡◌, ◌≢◌, ℕ, zero, suc, ◌+◌, ◌-◌, ◌<◌, ◌≤◌, Bool, true, false, cond, ◌||◌, eqb, List, [], ◌∷◌, ◌++◌, length, take, get_or, refl, sym, ap, subst, ◌∙◌, arith, inl, inr, add-one, append-nil, length-append}
use Rattle.std.proofs.lemmas.Bool.{cases_Bool, ne_eqb, eq-eqb}
use Rattle.wg_graph.specs.Ascending.{Ascends, Below}
use Rattle.wg_graph.specs.Numbers.{is_in, numbers_where}
use Rattle.wg_graph.specs.Digraph.{Digraph, successors}
use Rattle.wg_graph.specs.Arcs.{has_arc}
use Rattle.wg_graph.proofs.Sets.{where_split, grow, grow_end}
use Rattle.wg_transpose.specs.SoFar.{predecessors_below}

-- ---- one number more

pub where_more : (t : ℕ → Bool) (k : ℕ) → numbers_where t 0 (k + 1) ≡ numbers_where t 0 k ++ cond (t k) (k ∷ []) []
where_more t k =
    elim (cases_Bool (t k)) [
      | inl yes_it_is ↦ rw (add-one, yes_it_is) (sym (grow t k k (omega arith) (λ y low high. absurd (omega arith)) yes_it_is))
      | inr no_it_is ↦ rw (no_it_is, append-nil) (sym (grow_end t k (k + 1) (omega arith) (λ y low high. let e : y ≡ k = omega arith in rw e no_it_is)))
    ]

pub where_few : (t : ℕ → Bool) (k : ℕ) → length (numbers_where t 0 k) ≤ k
where_few t zero = omega arith
where_few t (suc k) =
    let e : k + 1 ≡ suc k = omega arith in
    let one : (b : Bool) → length (cond b (k ∷ []) []) ≤ 1 = one_at_most k in
    subst (λ m. length (numbers_where t 0 m) ≤ m) e (omega (arith, where_few t k, ap length (where_more t k), length-append (numbers_where t 0 k) (cond (t k) (k ∷ []) []), one (t k)))
  where
    one_at_most : (k : ℕ) (b : Bool) → length (cond b (k ∷ []) []) ≤ 1
    one_at_most k true = omega arith
    one_at_most k false = omega arith

-- ---- members of the front of a list

pub in_push : (y x : ℕ) (xs : List ℕ) → is_in y (xs ++ x ∷ []) ≡ (is_in y xs || eqb y x)
in_push y x [] = grind arith
in_push y x (z ∷ xs) = grind (arith, in_push y x xs)

pub in_push_same : (y : ℕ) (xs : List ℕ) → is_in y (xs ++ y ∷ []) ≡ true
in_push_same y xs = grind (arith, in_push, eq-eqb)

pub in_push_other : (y x : ℕ) (xs : List ℕ) → y ≢ x → is_in y (xs ++ x ∷ []) ≡ is_in y xs
in_push_other y x xs other = grind (arith, in_push, ne_eqb)

pub in_take : (y j : ℕ) (xs : List ℕ) → is_in y (take j xs) ≡ true → is_in y xs ≡ true
in_take y zero xs h = absurd cc
in_take y (suc j) [] h = h
in_take y (suc j) (x ∷ xs) h = grind (arith, in_take y j xs)

member_from : (n j : ℕ) (xs : List ℕ) → Ascends n xs → j < length xs → n ≤ get_or xs j 0
member_from n j [] up lt = absurd (omega arith)
member_from n zero (x ∷ xs) up lt = up.0
member_from n (suc j) (x ∷ xs) up lt = omega (arith, up.0, member_from (suc x) j xs up.1 (omega arith))

pub member_below : (n j : ℕ) (xs : List ℕ) → Below n xs → j < length xs → get_or xs j 0 < n
member_below n j [] below lt = absurd (omega arith)
member_below n zero (x ∷ xs) below lt = below.0
member_below n (suc j) (x ∷ xs) below lt = member_below n j xs below.1 (omega arith)

-- no member comes twice
pub not_before : (n j : ℕ) (xs : List ℕ) → Ascends n xs → j < length xs → is_in (get_or xs j 0) (take j xs) ≡ false
not_before n zero xs up lt = refl
not_before n (suc j) [] up lt = absurd (omega arith)
not_before n (suc j) (x ∷ xs) up lt =
    let above : suc x ≤ get_or xs j 0 = member_from (suc x) j xs up.1 (omega arith) in
    rw (ne_eqb (get_or xs j 0) x (λ e. omega arith)) (not_before (suc x) j xs up.1 (omega arith))

-- ---- the lists of predecessors

-- those below page k, and page k itself in the lists of the targets that were seen
abbrev pub with_page : Digraph → ℕ → List ℕ → ℕ → List ℕ
with_page g k seen v = predecessors_below g k v ++ cond (is_in v seen) (k ∷ []) []

pub none_seen : (g : Digraph) (k v : ℕ) → with_page g k [] v ≡ predecessors_below g k v
none_seen g k v = append-nil (predecessors_below g k v)

pub all_seen : (g : Digraph) (k v : ℕ) → predecessors_below g (k + 1) v ≡ with_page g k (successors g k) v
all_seen g k v = where_more (λ u. has_arc g u v) k

pub seen_other : (g : Digraph) (k : ℕ) (seen : List ℕ) (v w : ℕ) → w ≢ v → with_page g k (seen ++ v ∷ []) w ≡ with_page g k seen w
seen_other g k seen v w other = ap (λ (b : Bool). predecessors_below g k w ++ cond b (k ∷ []) []) (in_push_other w v seen other)

pub seen_now : (g : Digraph) (k : ℕ) (seen : List ℕ) (v : ℕ) → is_in v seen ≡ false → with_page g k (seen ++ v ∷ []) v ≡ with_page g k seen v ++ k ∷ []
seen_now g k seen v new = let now = in_push_same v seen in rw (now, new, append-nil) refl

-- ---- what stands for these lists, if more stands for a longer one

module _ {X : Type 0} (items : List ℕ → List X) (more : (xs ys : List ℕ) → length (items xs) ≤ length (items (xs ++ ys))) where
  pub where_le : (t : ℕ → Bool) (k m : ℕ) → k ≤ m → length (items (numbers_where t 0 k)) ≤ length (items (numbers_where t 0 m))
  where_le t k m le =
      let e : m ≡ k + (m - k) = omega arith in
      let parts = ap (λ (l : List ℕ). length (items l)) (ap (numbers_where t 0) e ∙ where_split t 0 k (m - k)) in
      omega (arith, parts, more (numbers_where t 0 k) (numbers_where t (0 + k) (m - k)))

  -- for no list is there more than there will be after the page
  pub seen_le : (g : Digraph) (k j v : ℕ) → length (items (with_page g k (take j (successors g k)) v)) ≤ length (items (predecessors_below g (k + 1) v))
  seen_le g k j v =
      let all = ap (λ (l : List ℕ). length (items l)) (all_seen g k v) in
      elim (cases_Bool (is_in v (take j (successors g k)))) [
        | inl e ↦ let f : is_in v (successors g k) ≡ true = in_take v j (successors g k) e in rw e (let h = rw f at all in omega (arith, h))
        | inr e ↦
            let none : with_page g k (take j (successors g k)) v ≡ predecessors_below g k v = rw (e, append-nil) refl in
            omega (arith, ap (λ (l : List ℕ). length (items l)) none, where_le (λ u. has_arc g u v) k (k + 1) (omega arith))
      ]
