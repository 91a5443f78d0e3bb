-- A quotient has no more arcs than the graph.
use Rattle.std.proofs.Common.{◌≡◌, ℕ, zero, suc, ◌+◌, ◌<◌, ◌≤◌, Bool, get_or, true, false, cond, eqb, ltb, ◌||◌, List, [], ◌∷◌, ◌++◌, length, take, map, refl, sym, ap, subst, ◌∙◌, arith, inl, inr, append-nil, length-append}
use Rattle.std.specs.List.{sum_by, range_with_len}
use Rattle.std.proofs.lemmas.Bool.{cases_eq, cases_order, ne_eqb, eq-eqb, lt-ltb, le-ltb}
use Rattle.std.proofs.lemmas.List.{take_all, length-map}
use Rattle.std.proofs.lemmas.List.Sums.{sum_by_more, sum_by-take-le}
use Rattle.std.proofs.lemmas.List.FromFn.{sum_by-map-range_with_len_more}
use Rattle.wg_graph.specs.Ascending.{Below}
use Rattle.wg_graph.specs.Numbers.{is_in, numbers_where}
use Rattle.wg_graph.specs.Digraph.{Digraph, IsGraph, successors, arc_count}
use Rattle.wg_graph.proofs.Sets.{where_none}
use Rattle.wg_transpose.specs.SoFar.{start, AreCounts}
use Rattle.wg_transpose.proofs.Totals.{start_le}
use Rattle.wg_transpose.proofs.Seen.{where_more, member_below}
use Rattle.wg_shape.specs.Quotient.{class_of, members, reached, leads, quotient_of}
use Rattle.wg_shape.specs.Classes.{reached_below, reached_by}
use Rattle.wg_shape.proofs.Reached.{reached_push, length_next}

-- ---- a set has no more numbers than a list of its members

where_or : (s t : ℕ → Bool) (n k : ℕ) → length (numbers_where (λ y. s y || t y) n k) ≤ length (numbers_where s n k) + length (numbers_where t n k)
where_or s t n zero = omega arith
where_or s t n (suc k) = grind (arith, where_or s t (n + 1) k)

where_one : (x n k : ℕ) → length (numbers_where (λ y. eqb y x) n k) ≤ 1
where_one x n zero = omega arith
where_one x n (suc k) =
    elim (cases_eq n x) [
      | inl same ↦
          let here : eqb n x ≡ true = eq-eqb n x same in
          let none : length (numbers_where (λ y. eqb y x) (n + 1) k) ≡ 0 = ap length (where_none (λ y. eqb y x) (n + 1) k (λ y low high. ne_eqb y x (λ e. omega arith))) in
          rw here (omega (arith, none))
      | inr other ↦ let here : eqb n x ≡ false = ne_eqb n x other in rw here (where_one x (n + 1) k)
    ]

where_members : (xs : List ℕ) (n k : ℕ) → length (numbers_where (λ y. is_in y xs) n k) ≤ length xs
where_members [] n k = omega (arith, ap length (where_none (λ y. is_in y []) n k (λ y low high. refl)))
where_members (x ∷ xs) n k = omega (arith, where_or (λ y. eqb y x) (λ y. is_in y xs) n k, where_one x n k, where_members xs n k)

-- ---- how many arcs leave the pages below page m that are in a class below k

arcs_below : Digraph → List ℕ → ℕ → ℕ → ℕ
arcs_below g classes k zero = 0
arcs_below g classes k (suc m) = arcs_below g classes k m + cond (ltb (class_of classes m) k) (length (successors g m)) 0

reached_one : (g : Digraph) (classes us : List ℕ) (m : ℕ) (b : Bool) → length (reached g classes (us ++ cond b (m ∷ []) [])) ≡ length (reached g classes us) + cond b (length (successors g m)) 0
reached_one g classes us m true =
    omega (arith, ap length (reached_push g classes us m), length-append (reached g classes us) (map (class_of classes) (successors g m)), length-map (successors g m) (class_of classes))
reached_one g classes us m false = omega (arith, ap (λ (l : List ℕ). length (reached g classes l)) (append-nil us))

abbrev of_class : List ℕ → ℕ → ℕ → Bool
of_class classes k u = eqb k (class_of classes u)

reached_more : (g : Digraph) (classes : List ℕ) (k m : ℕ) → length (reached g classes (numbers_where (of_class classes k) 0 (suc m))) ≡ length (reached g classes (numbers_where (of_class classes k) 0 m)) + cond (of_class classes k m) (length (successors g m)) 0
reached_more g classes k m =
    let e : m + 1 ≡ suc m = omega arith in
    subst (λ i. length (reached g classes (numbers_where (of_class classes k) 0 i)) ≡ length (reached g classes (numbers_where (of_class classes k) 0 m)) + cond (of_class classes k m) (length (successors g m)) 0) e
    (ap (λ (l : List ℕ). length (reached g classes l)) (where_more (of_class classes k) m) ∙ reached_one g classes (numbers_where (of_class classes k) 0 m) m (of_class classes k m))

-- a class more, one page more
one_page : (c k d : ℕ) → cond (eqb k c) d 0 + cond (ltb c k) d 0 ≡ cond (ltb c (suc k)) d 0
one_page c k d = grind (arith, cases_order, eq-eqb, ne_eqb, lt-ltb, le-ltb)

class_more : (g : Digraph) (classes : List ℕ) (k m : ℕ) → length (reached g classes (numbers_where (of_class classes k) 0 m)) + arcs_below g classes k m ≡ arcs_below g classes (suc k) m
unfolding arcs_below
class_more g classes k zero = omega arith
class_more g classes k (suc m) = omega (arith, class_more g classes k m, reached_more g classes k m, one_page (class_of classes m) k (length (successors g m)))

none_below : (g : Digraph) (classes : List ℕ) (m : ℕ) → arcs_below g classes 0 m ≡ 0
unfolding arcs_below
none_below g classes zero = refl
none_below g classes (suc m) = let b : ltb (class_of classes m) 0 ≡ false = le-ltb (class_of classes m) 0 (omega arith) in rw b (omega (arith, none_below g classes m))

module _ (g : Digraph) (ok : IsGraph g) (classes : List ℕ) (n : ℕ) (size : length classes ≡ g.nodes) (below : Below n classes) where
  all_below : (m : ℕ) → m ≤ g.nodes → arcs_below g classes n m ≡ sum_by (λ s. length s) (take m g.lists)
  unfolding arcs_below
  all_below zero le = refl
  all_below (suc m) le =
      let e : m + 1 ≡ suc m = omega arith in
      let b : ltb (class_of classes m) n ≡ true = lt-ltb (class_of classes m) n (member_below n m classes below (omega arith)) in
      rw b (subst (λ i. arcs_below g classes n m + length (successors g m) ≡ sum_by (λ s. length s) (take i g.lists)) e
      (omega (arith, all_below m (omega arith), sum_by_more (λ (s : List ℕ). length s) g.lists m [] (omega (arith, ok.counted)))))

  start_reached : (k m : ℕ) → start (reached_below g classes m) k ≡ arcs_below g classes k m
  start_reached zero m = sym (none_below g classes m)
  start_reached (suc k) m = omega (arith, start_reached k m, class_more g classes k m)

  -- no more arcs leave the pages below page m than there are
  pub few_reached : (m : ℕ) → m ≤ g.nodes → start (reached_below g classes m) n ≤ arc_count g
  few_reached m le = omega (arith, start_reached n m, all_below m le, sum_by-take-le (λ (s : List ℕ). length s) g.lists m)

  pub few_by_class : start (reached_by g classes) n ≤ arc_count g
  few_by_class = subst (λ (m : ℕ). start (reached_below g classes m) n ≤ arc_count g) (sym size) (few_reached g.nodes (omega arith))

  -- the sum has room
  pub count_fits : (k : ℕ) (list counts : List ℕ) → k < g.nodes → list ≡ successors g k → AreCounts n (reached_below g classes k) counts → get_or counts (class_of classes k) 0 + length list ≤ arc_count g
  count_fits k list counts lt is h =
      let c : ℕ = class_of classes k in
      let low : c < n = member_below n k classes below (omega (arith, size)) in
      let own : eqb c c ≡ true = eq-eqb c c refl in
      let next = rw own at (length_next g classes k c) in
      omega (arith, h.each c low, next, ap length is, start_le (reached_below g classes (k + 1)) (suc c) n (omega arith), few_reached (k + 1) (omega arith))

  rows : (k : ℕ) → sum_by (λ s. length s) (map (λ i. numbers_where (leads g classes i) 0 n) (range_with_len 0 k)) ≤ arcs_below g classes k (length classes)
  rows zero = omega arith
  rows (suc k) =
      let e : k + 1 ≡ suc k = omega arith in
      let more = sum_by-map-range_with_len_more (λ (s : List ℕ). length s) (λ i. numbers_where (leads g classes i) 0 n) 0 k k (omega arith) in
      subst (λ i. sum_by (λ s. length s) (map (λ i. numbers_where (leads g classes i) 0 n) (range_with_len 0 i)) ≤ arcs_below g classes (suc k) (length classes)) e
      (omega (arith, more, rows k, where_members (reached g classes (members classes k)) 0 n, class_more g classes k (length classes)))

  pub fewer : arc_count (quotient_of g classes n) ≤ arc_count g
  fewer =
      let all = ap (λ (l : List (List ℕ)). sum_by (λ (s : List ℕ). length s) l) (take_all g.nodes g.lists (omega (arith, ok.counted))) in
      omega (arith, rows n, ap (arcs_below g classes n) size, all_below g.nodes (omega arith), all)
