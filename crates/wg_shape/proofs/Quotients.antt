-- What holds of all quotients.
use Rattle.std.proofs.Common.{◌≡◌, ℕ, ◌<◌, Bool, true, eqb, ◌||◌, List, [], ◌∷◌, ◌++◌, length, map, refl, sym, ap, subst, ◌∙◌, arith, inl, inr}
use Rattle.std.specs.List.{range_with_len}
use Rattle.std.proofs.lemmas.Bool.{cases_Bool, cases_lt, cases_eq, eq-eqb, eqb-true, or_cases, true≢false}
use Rattle.std.proofs.lemmas.List.{get_or_past}
use Rattle.std.proofs.lemmas.List.Elements.{All-from_get_or}
use Rattle.std.proofs.lemmas.List.FromFn.{length-map-range_with_len, get_or-map-range_with_len}
use Rattle.wg_graph.specs.Ascending.{Ascends, Below}
use Rattle.wg_graph.specs.Numbers.{is_in, numbers_where}
use Rattle.wg_graph.specs.Digraph.{Digraph, IsGraph, successors}
use Rattle.wg_graph.specs.Arcs.{has_arc}
use Rattle.wg_graph.proofs.Sets.{ascends-where, below-where, is_in-where, in_past}
use Rattle.wg_transpose.specs.Transposed.{transposed}
use Rattle.wg_transpose.proofs.Reversed.{list_below, is_one, are_reversed, gives_back}
use Rattle.wg_transpose.proofs.Reversed as Reversed
use Rattle.wg_transpose.proofs.Seen.{member_below}
use Rattle.wg_shape.specs.Quotient.{class_of, Leads, IsQuotient, members, reached, leads, quotient_of}

-- ---- members of lists

pub in_append : (y : ℕ) (xs ys : List ℕ) → is_in y (xs ++ ys) ≡ (is_in y xs || is_in y ys)
in_append y [] ys = refl
in_append y (x ∷ xs) ys = grind (arith, in_append y xs ys)

in_map_from : (f : ℕ → ℕ) (j : ℕ) (xs : List ℕ) → is_in j (map f xs) ≡ true → (v : ℕ) × (is_in v xs ≡ true) × (f v ≡ j)
in_map_from f j [] h = absurd cc
in_map_from f j (x ∷ xs) h =
    elim (cases_Bool (eqb j (f x))) [
      | inl e ↦ (x, rw (eq-eqb x x refl) refl, sym (eqb-true j (f x) e))
      | inr e ↦
          let rest = in_map_from f j xs (rw e at h) in
          (rest.0, elim (cases_Bool (eqb rest.0 x)) [ inl d ↦ rw d refl | inr d ↦ rw d rest.1 ], rest.2)
    ]

in_map_to : (f : ℕ → ℕ) (v : ℕ) (xs : List ℕ) → is_in v xs ≡ true → is_in (f v) (map f xs) ≡ true
in_map_to f v [] h = h
in_map_to f v (x ∷ xs) h =
    elim (cases_eq v x) [
      | inl same ↦ rw (eq-eqb (f v) (f x) (ap f same)) refl
      | inr other ↦
          let rest = in_map_to f v xs (elim (or_cases (eqb v x) (is_in v xs) h) [ inl e ↦ absurd (other (eqb-true v x e)) | inr e ↦ e ]) in
          elim (cases_Bool (eqb (f v) (f x))) [ inl d ↦ rw d refl | inr d ↦ rw d rest ]
    ]

-- ---- the classes that are reached

pub reached_from : (g : Digraph) (classes : List ℕ) (j : ℕ) (us : List ℕ) → is_in j (reached g classes us) ≡ true
    → (u : ℕ) × (v : ℕ) × (is_in u us ≡ true) × (has_arc g u v ≡ true) × (class_of classes v ≡ j)
reached_from g classes j [] h = absurd cc
reached_from g classes j (u ∷ us) h =
    let front : List ℕ = map (class_of classes) (successors g u) in
    elim (or_cases (is_in j front) (is_in j (reached g classes us)) (sym (in_append j front (reached g classes us)) ∙ h)) [
      | inl e ↦ let here = in_map_from (class_of classes) j (successors g u) e in (u, here.0, rw (eq-eqb u u refl) refl, here.1, here.2)
      | inr e ↦
          let rest = reached_from g classes j us e in
          (rest.0, rest.1, elim (cases_Bool (eqb rest.0 u)) [ inl d ↦ rw d refl | inr d ↦ rw d rest.2 ], rest.3, rest.4)
    ]

pub reached_to : (g : Digraph) (classes : List ℕ) (u v : ℕ) (us : List ℕ) → is_in u us ≡ true → has_arc g u v ≡ true → is_in (class_of classes v) (reached g classes us) ≡ true
reached_to g classes u v [] h arc = absurd cc
reached_to g classes u v (w ∷ us) h arc =
    let front : List ℕ = map (class_of classes) (successors g w) in
    in_append (class_of classes v) front (reached g classes us) ∙ elim (cases_eq u w) [
      | inl same ↦ let here = in_map_to (class_of classes) v (successors g w) (subst (λ k. has_arc g k v ≡ true) same arc) in rw here refl
      | inr other ↦
          let rest = reached_to g classes u v us (elim (or_cases (eqb u w) (is_in u us) h) [ inl e ↦ absurd (other (eqb-true u w e)) | inr e ↦ e ]) arc in
          elim (cases_Bool (is_in (class_of classes v) front)) [ inl d ↦ rw d refl | inr d ↦ rw (d, rest) refl ]
    ]

-- ---- the members of a class

pub members_from : (classes : List ℕ) (i u : ℕ) → is_in u (members classes i) ≡ true → class_of classes u ≡ i
members_from classes i u h =
    let t : ℕ → Bool = λ w. eqb i (class_of classes w) in
    elim (cases_lt u (length classes)) [
      | inl lt ↦ sym (eqb-true i (class_of classes u) (sym (is_in-where t 0 (length classes) u (omega arith) (omega arith)) ∙ h))
      | inr past ↦ absurd (true≢false (sym h ∙ in_past (length classes) u (members classes i) (below-where t 0 (length classes) (length classes) (omega arith)) past))
    ]

pub members_to : (classes : List ℕ) (i u : ℕ) → u < length classes → class_of classes u ≡ i → is_in u (members classes i) ≡ true
members_to classes i u lt is =
    is_in-where (λ w. eqb i (class_of classes w)) 0 (length classes) u (omega arith) (omega arith) ∙ eq-eqb i (class_of classes u) (sym is)

-- ---- arcs lead from page to page

pub arc_from : (g : Digraph) → IsGraph g → (u v : ℕ) → has_arc g u v ≡ true → u < g.nodes
arc_from g ok u v h = grind (arith, cases_lt, get_or_past, ok.counted)

pub arc_to : (g : Digraph) → IsGraph g → (u v : ℕ) → has_arc g u v ≡ true → v < g.nodes
arc_to g ok u v h = grind (arith, cases_lt, in_past, list_below, arc_from)

-- ---- the quotient

pub nodes_are : (g : Digraph) (classes : List ℕ) (n : ℕ) → (quotient_of g classes n).nodes ≡ n
nodes_are g classes n = refl

pub list_of : (g : Digraph) (classes : List ℕ) (n i : ℕ) → i < n → successors (quotient_of g classes n) i ≡ numbers_where (leads g classes i) 0 n
list_of g classes n i lt = get_or-map-range_with_len (λ k. numbers_where (leads g classes k) 0 n) 0 n i i [] lt (omega arith)

pub is_proper : (g : Digraph) (classes : List ℕ) (n : ℕ) → IsGraph (quotient_of g classes n)
is_proper g classes n =
    let lists : List (List ℕ) = map (λ i. numbers_where (leads g classes i) 0 n) (range_with_len 0 n) in
    let size : length lists ≡ n = length-map-range_with_len (λ i. numbers_where (leads g classes i) 0 n) 0 n in
    record {
      counted = size;
      ascending = All-from_get_or (Ascends 0) lists [] (λ i lt. subst (Ascends 0) (sym (list_of g classes n i (omega arith))) (ascends-where (leads g classes i) 0 n));
      below = All-from_get_or (Below n) lists [] (λ i lt. subst (Below n) (sym (list_of g classes n i (omega arith))) (below-where (leads g classes i) 0 n n (omega arith)));
    }

pub arc_is : (g : Digraph) (classes : List ℕ) (n i j : ℕ) → i < n → j < n → has_arc (quotient_of g classes n) i j ≡ leads g classes i j
arc_is g classes n i j i_lt j_lt = ap (is_in j) (list_of g classes n i i_lt) ∙ is_in-where (leads g classes i) 0 n j (omega arith) (omega arith)

module _ (g : Digraph) (ok : IsGraph g) (classes : List ℕ) (n : ℕ) (size : length classes ≡ g.nodes) (below : Below n classes) where
  leads_from : (i j : ℕ) → has_arc (quotient_of g classes n) i j ≡ true → Leads g classes i j
  leads_from i j h =
      let i_lt : i < n = subst (λ m. i < m) (nodes_are g classes n) (arc_from (quotient_of g classes n) (is_proper g classes n) i j h) in
      let j_lt : j < n = subst (λ m. j < m) (nodes_are g classes n) (arc_to (quotient_of g classes n) (is_proper g classes n) i j h) in
      let way = reached_from g classes j (members classes i) (sym (arc_is g classes n i j i_lt j_lt) ∙ h) in
      record { from = way.0; to = way.1; arc = way.3; leaves = members_from classes i way.0 way.2; arrives = way.4 }

  pub leads_to : (u v : ℕ) → has_arc g u v ≡ true → has_arc (quotient_of g classes n) (class_of classes u) (class_of classes v) ≡ true
  leads_to u v arc =
      let u_lt : u < length classes = omega (arith, size, arc_from g ok u v arc) in
      let v_lt : v < length classes = omega (arith, size, arc_to g ok u v arc) in
      arc_is g classes n (class_of classes u) (class_of classes v) (member_below n u classes below u_lt) (member_below n v classes below v_lt)
      ∙ reached_to g classes u v (members classes (class_of classes u)) (members_to classes (class_of classes u) u u_lt refl) arc

  leads_back : (i j : ℕ) → Leads g classes i j → has_arc (quotient_of g classes n) i j ≡ true
  leads_back i j l = subst (λ k. has_arc (quotient_of g classes n) i k ≡ true) l.arrives (subst (λ k. has_arc (quotient_of g classes n) k (class_of classes l.to) ≡ true) l.leaves (leads_to l.from l.to l.arc))

  pub is_quotient : IsQuotient g classes n (quotient_of g classes n)
  is_quotient = record { nodes = nodes_are g classes n; proper = is_proper g classes n; arcs = λ i j. (leads_from i j, leads_back i j) }

-- ---- graphs with the same arcs

pub same_bool : (a b : Bool) → (a ≡ true → b ≡ true) → (b ≡ true → a ≡ true) → a ≡ b
same_bool a b f h = grind arith

pub same_graph : (g h : Digraph) → IsGraph g → IsGraph h → g.nodes ≡ h.nodes → ((u v : ℕ) → has_arc g u v ≡ has_arc h u v) → g ≡ h
same_graph g h g_ok h_ok nodes same =
    is_one (transposed h) g (Reversed.is_proper h) g_ok nodes (λ u v. same v u ∙ sym (are_reversed h h_ok v u)) ∙ gives_back h h_ok

pub one_quotient : (g : Digraph) (classes : List ℕ) (n : ℕ) (q p : Digraph) → IsQuotient g classes n q → IsQuotient g classes n p → q ≡ p
one_quotient g classes n q p a b = same_graph q p a.proper b.proper (a.nodes ∙ sym b.nodes) (λ i j. same_bool (has_arc q i j) (has_arc p i j) (λ e. (b.arcs i j).1 ((a.arcs i j).0 e)) (λ e. (a.arcs i j).1 ((b.arcs i j).0 e)))
