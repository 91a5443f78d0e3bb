-- The first number of an ascending list at which a size is least.
use Rattle.std.proofs.Common.{◌≡◌, ℕ, suc, ◌+◌, ◌<◌, ◌≤◌, min, Bool, true, false, eqb, leb, List, [], ◌∷◌, refl, sym, ap, subst, ◌∙◌, inl, inr, arith}
use Rattle.std.specs.Prelude.{Some, find, unwrap_or}
use Rattle.std.specs.List.{list_all}
use Rattle.std.proofs.lemmas.Bool.{cases_Bool, cases_lt, and_parts, and_from, and_cases, or_cases, leb-true, leb-false, le-leb, eqb-true, cond-true, cond-false, true≢false}
use Rattle.wg_graph.specs.Numbers.{is_in}
use Rattle.wg_graph.specs.Ascending.{Ascends}
use Rattle.wg_graph.proofs.Sets.{in_head, in_below, ascends-where, is_in-where, below-where, in_past}
use Rattle.wg_params.specs.Parameters.{Parameters}
use Rattle.wg_grammar.specs.Context.{Context}
use Rattle.wg_greedy.specs.Greedy.{size_of, is_candidate, candidates, chosen}

-- ---- tests of all members

pub all_in : (q : ℕ → Bool) (xs : List ℕ) (y : ℕ) → list_all q xs ≡ true → is_in y xs ≡ true → q y ≡ true
all_in q [] y all there = absurd (true≢false (sym there))
all_in q (x ∷ xs) y all there =
    let parts = and_parts (q x) (list_all q xs) all in
    elim (or_cases (eqb y x) (is_in y xs) there) [ inl e ↦ ap q (eqb-true y x e) ∙ parts.0 | inr h ↦ all_in q xs y parts.1 h ]

-- a member that fails
abbrev Fails : (ℕ → Bool) → List ℕ → Type 0
Fails q xs = (y : ℕ) × (is_in y xs ≡ true) × (q y ≡ false)

in_later : (x y : ℕ) (xs : List ℕ) → is_in y xs ≡ true → is_in y (x ∷ xs) ≡ true
in_later x y xs there = elim (cases_Bool (eqb y x)) [ inl h ↦ rw h refl | inr h ↦ rw h there ]

some_fails : (q : ℕ → Bool) (xs : List ℕ) → list_all q xs ≡ false → Fails q xs
some_fails q [] none = absurd (true≢false none)
some_fails q (x ∷ xs) none =
    elim (and_cases (q x) (list_all q xs) none) [ inl h ↦ (x, in_head x xs, h) | inr h ↦ let f = some_fails q xs h in (f.0, in_later x f.0 xs f.1, f.2) ]

all_more : (p q : ℕ → Bool) (xs : List ℕ) → ((y : ℕ) → p y ≡ true → q y ≡ true) → list_all p xs ≡ true → list_all q xs ≡ true
all_more p q [] h all = refl
all_more p q (x ∷ xs) h all = let parts = and_parts (p x) (list_all p xs) all in and_from (q x) (list_all q xs) (h x parts.0) (all_more p q xs h parts.1)

-- ---- a least one

abbrev pub is_least : (ℕ → ℕ) → List ℕ → ℕ → Bool
is_least size xs y = list_all (λ s. leb (size y) (size s)) xs

abbrev HasLeast : (ℕ → ℕ) → List ℕ → Type 0
HasLeast size xs = (y : ℕ) × (is_in y xs ≡ true) × (is_least size xs y ≡ true)

least_one : (size : ℕ → ℕ) (x : ℕ) (xs : List ℕ) → HasLeast size (x ∷ xs)
least_one size x [] = (x, in_head x [], and_from (leb (size x) (size x)) true (le-leb (size x) (size x) (omega arith)) refl)
least_one size x (y ∷ ys) =
    let m = least_one size y ys in
    elim (cases_lt (size m.0) (size x)) [
      | inl lt ↦ (m.0, in_later x m.0 (y ∷ ys) m.1, and_from (leb (size m.0) (size x)) (is_least size (y ∷ ys) m.0) (le-leb (size m.0) (size x) (omega arith)) m.2)
      | inr le ↦ (
        x,
        in_head x (y ∷ ys),
        and_from (leb (size x) (size x)) (is_least size (y ∷ ys) x) (le-leb (size x) (size x) (omega arith))
            (all_more (λ s. leb (size m.0) (size s)) (λ s. leb (size x) (size s)) (y ∷ ys) (λ s h. let low = leb-true (size m.0) (size s) h in
            le-leb (size x) (size s) (omega arith)) m.2),
      )
    ]

-- ---- the first that passes

record IsFound (t : ℕ → Bool) (xs : List ℕ) (y : ℕ) : Type 0 where
  pub found : find t xs ≡ Some y
  pub there : is_in y xs ≡ true
  pub passes : t y ≡ true
  pub first : (z : ℕ) → is_in z xs ≡ true → z < y → t z ≡ false

find_first : (t : ℕ → Bool) (n : ℕ) (xs : List ℕ) (x : ℕ) → Ascends n xs → is_in x xs ≡ true → t x ≡ true → (y : ℕ) × IsFound t xs y
find_first t n [] x up there passes = absurd (true≢false (sym there))
find_first t n (w ∷ ws) x up there passes =
    elim (cases_Bool (t w)) [
      | inl h ↦ (
        w,
        record {
          found = cond-true (t w) (Some w) (find t ws) h;
          there = in_head w ws;
          passes = h;
          first =
              λ z member lt. absurd (true≢false (sym member ∙ in_below w z (w ∷ ws) (omega arith, up.1) lt));
        },
      )
      | inr h ↦
          let later : is_in x ws ≡ true = elim (or_cases (eqb x w) (is_in x ws) there) [ inl e ↦ absurd (true≢false (sym passes ∙ ap t (eqb-true x w e) ∙ h)) | inr k ↦ k ] in
          let rest = find_first t (suc w) ws x up.1 later passes in (
            rest.0,
            record {
              found = cond-false (t w) (Some w) (find t ws) h ∙ rest.1.found;
              there = in_later w rest.0 ws rest.1.there;
              passes = rest.1.passes;
              first = λ z member lt. elim (or_cases (eqb z w) (is_in z ws) member) [ inl e ↦ ap t (eqb-true z w e) ∙ h | inr k ↦ rest.1.first z k lt ];
            },
          )
    ]

-- ---- the reference that is chosen

pub within : (p : Parameters) (c : Context) (list : List ℕ) (r : ℕ) → is_candidate p c list r ≡ true → r ≤ min p.window c.page
within p c list r h =
    elim (or_cases (eqb r 0) _ h) [
      | inl e ↦ let none = eqb-true r 0 e in omega arith
      | inr k ↦ leb-true r (min p.window c.page) (and_parts _ _ (and_parts _ _ (and_parts _ _ k).0).0).0
    ]

member : (p : Parameters) (c : Context) (list : List ℕ) (r : ℕ) → is_candidate p c list r ≡ true → is_in r (candidates p c list) ≡ true
member p c list r h = let low = within p c list r h in is_in-where (is_candidate p c list) 0 (min p.window c.page + 1) r (omega arith) (omega arith) ∙ h

least_among : (size : ℕ → ℕ) (xs : List ℕ) (x : ℕ) → is_in x xs ≡ true → HasLeast size xs
least_among size [] x there = absurd (true≢false (sym there))
least_among size (y ∷ ys) x there = least_one size y ys

module _ (p : Parameters) (c : Context) (list : List ℕ) where
  chosen_found : IsFound (is_least (size_of p c list) (candidates p c list)) (candidates p c list) (chosen p c list)
  unfolding chosen
  chosen_found =
      let size : ℕ → ℕ = size_of p c list in
      let xs : List ℕ = candidates p c list in
      let m = least_among size xs 0 (member p c list 0 refl) in
      let f = find_first (is_least size xs) 0 xs m.0 (ascends-where (is_candidate p c list) 0 (min p.window c.page + 1)) m.1 m.2 in
      subst (IsFound (is_least size xs) xs) (sym (ap (λ o. unwrap_or o 0) f.1.found)) f.1

  pub chosen_candidate : is_candidate p c list (chosen p c list) ≡ true
  chosen_candidate =
      let f = chosen_found in
      let r : ℕ = chosen p c list in
      elim (cases_lt r (min p.window c.page + 1)) [
        | inl lt ↦ sym (is_in-where (is_candidate p c list) 0 (min p.window c.page + 1) r (omega arith) (omega arith)) ∙ f.there
        | inr past ↦ absurd (true≢false (sym f.there ∙ in_past (min p.window c.page + 1) r (candidates p c list)
            (below-where (is_candidate p c list) 0 (min p.window c.page + 1) (min p.window c.page + 1) (omega arith)) past))
      ]

  pub chosen_shortest : (r : ℕ) → is_candidate p c list r ≡ true
      → (size_of p c list (chosen p c list) ≤ size_of p c list r) × (r < chosen p c list → size_of p c list (chosen p c list) < size_of p c list r)
  chosen_shortest r h =
      let size : ℕ → ℕ = size_of p c list in
      let xs : List ℕ = candidates p c list in
      let f = chosen_found in
      let best : ℕ = chosen p c list in
      let none_less : (s : ℕ) → is_in s xs ≡ true → size best ≤ size s = λ s there. leb-true (size best) (size s) (all_in (λ s. leb (size best) (size s)) xs s f.passes there) in (
        none_less r (member p c list r h),
        λ lt. let g = some_fails (λ s. leb (size r) (size s)) xs (f.first r (member p c list r h) lt) in let less = leb-false (size r) (size g.0) g.2 in let low =
            none_less g.0 g.1 in omega (arith, less, low),
      )
