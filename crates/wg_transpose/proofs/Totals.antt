-- As many arcs lead to the pages as leave them.
use Rattle.std.proofs.Common.{◌≡◌, ℕ, zero, suc, ◌+◌, ◌≤◌, Bool, cond, List, [], ◌∷◌, length, take, map, refl, sym, ap, subst, ◌∙◌, arith, inl, inr, length-append}
use Rattle.std.specs.List.{sum_by, range_with_len}
use Rattle.std.specs.Prelude.{sum}
use Rattle.std.proofs.lemmas.Bool.{cases_lt}
use Rattle.std.proofs.lemmas.List.{take_all}
use Rattle.std.proofs.lemmas.List.Sums.{sum_by_more}
use Rattle.std.proofs.lemmas.List.FromFn.{sum_by-map-range_with_len_more}
use Rattle.wg_graph.specs.Numbers.{numbers_where}
use Rattle.wg_graph.specs.Digraph.{Digraph, IsGraph, successors, arc_count}
use Rattle.wg_graph.specs.Arcs.{has_arc}
use Rattle.wg_transpose.specs.Transposed.{predecessors}
use Rattle.wg_transpose.specs.SoFar.{predecessors_below, start, AreCounts}
use Rattle.wg_transpose.specs.Laws.{ArcsAreAsMany}
use Rattle.wg_transpose.proofs.Reversed.{list_is}
use Rattle.wg_transpose.proofs.Seen.{where_more}

abbrev pub one_if : Bool → ℕ
one_if b = cond b 1 0

start_of_none : (v : ℕ) → start {X = ℕ} (λ w. []) v ≡ 0
start_of_none zero = refl
start_of_none (suc v) = omega (arith, start_of_none v)

pub start_le : {X : Type 0} (lists : ℕ → List X) (v w : ℕ) → v ≤ w → start lists v ≤ start lists w
start_le lists v zero le = grind arith
start_le lists v (suc w) le =
    elim (cases_lt w v) [
      | inl last ↦ let e : v ≡ suc w = omega arith in rw e (omega arith)
      | inr before ↦ omega (arith, start_le lists v w before)
    ]

-- lists have as many items at most as others have numbers
pub start_few : {X : Type 0} (lists : ℕ → List X) (others : ℕ → List ℕ) → ((v : ℕ) → length (lists v) ≤ length (others v)) → (n : ℕ) → start lists n ≤ start others n
start_few lists others few zero = omega arith
start_few lists others few (suc n) = omega (arith, start_few lists others few n, few n)

length-cond : (b : Bool) (k : ℕ) → length (cond b (k ∷ []) []) ≡ one_if b
length-cond b k = grind arith

-- how long a list is with one number more, if there is one
pub count_if : (t : ℕ → Bool) (k : ℕ) → length (numbers_where t 0 (suc k)) ≡ length (numbers_where t 0 k) + one_if (t k)
count_if t k =
    let e : k + 1 ≡ suc k = omega arith in
    subst (λ m. length (numbers_where t 0 m) ≡ length (numbers_where t 0 k) + one_if (t k)) e
    (omega (arith, ap length (where_more t k), length-append (numbers_where t 0 k) (cond (t k) (k ∷ []) []), length-cond (t k) k))

-- page k adds one for each target
start_more : (g : Digraph) (k v : ℕ) → start (predecessors_below g (suc k)) v ≡ start (predecessors_below g k) v + length (numbers_where (λ w. has_arc g k w) 0 v)
start_more g k zero = refl
start_more g k (suc v) = omega (arith, start_more g k v, count_if (λ u. has_arc g u v) k, count_if (λ w. has_arc g k w) v)

start_of_lists : (g : Digraph) → IsGraph g → (k : ℕ) → k ≤ g.nodes → start (predecessors_below g k) g.nodes ≡ sum_by (λ s. length s) (take k g.lists)
start_of_lists g ok zero le = start_of_none g.nodes
start_of_lists g ok (suc k) le =
    let e : k + 1 ≡ suc k = omega arith in
    let sums : sum_by (λ s. length s) (take (suc k) g.lists) ≡ sum_by (λ s. length s) (take k g.lists) + length (successors g k) =
    subst (λ m. sum_by (λ s. length s) (take m g.lists) ≡ sum_by (λ s. length s) (take k g.lists) + length (successors g k)) e
    (sum_by_more (λ (s : List ℕ). length s) g.lists k [] (omega (arith, ok.counted))) in
    let row : length (successors g k) ≡ length (numbers_where (λ w. has_arc g k w) 0 g.nodes) = ap length (list_is g ok k (omega arith)) in
    omega (arith, start_of_lists g ok k (omega arith), start_more g k g.nodes, row, sums)

pub start_of_all : (g : Digraph) → IsGraph g → start (predecessors g) g.nodes ≡ arc_count g
start_of_all g ok = start_of_lists g ok g.nodes (omega arith) ∙ ap (λ (l : List (List ℕ)). sum_by (λ (s : List ℕ). length s) l) (take_all g.nodes g.lists (omega (arith, ok.counted)))

sum_of_lengths : (lists : ℕ → List ℕ) (n : ℕ) → sum_by (λ s. length s) (map lists (range_with_len 0 n)) ≡ start lists n
sum_of_lengths lists zero = refl
sum_of_lengths lists (suc n) =
    let e : n + 1 ≡ suc n = omega arith in
    let more = sum_by-map-range_with_len_more (λ (s : List ℕ). length s) lists 0 n n (omega arith) in
    subst (λ m. sum_by (λ s. length s) (map lists (range_with_len 0 m)) ≡ start lists (suc n)) e (omega (arith, more, sum_of_lengths lists n))

pub as_many : ArcsAreAsMany
as_many g ok = sum_of_lengths (predecessors g) g.nodes ∙ start_of_all g ok

-- ---- sums of counts

pub sum_is_start : {X : Type 0} (n : ℕ) (lists : ℕ → List X) (counts : List ℕ) → AreCounts n lists counts → (v : ℕ) → v ≤ n → sum (take v counts) ≡ start lists v
sum_is_start n lists counts h zero le = refl
sum_is_start n lists counts h (suc v) le =
    let e : v + 1 ≡ suc v = omega arith in
    let more = sum_by_more (λ (x : ℕ). x) counts v 0 (omega (arith, h.pages)) in
    subst (λ m. sum (take m counts) ≡ start lists (suc v)) e (omega (arith, more, sum_is_start n lists counts h v (omega arith), h.each v (omega arith)))

pub sum_is_all : {X : Type 0} (n : ℕ) (lists : ℕ → List X) (counts : List ℕ) → AreCounts n lists counts → sum counts ≡ start lists n
sum_is_all n lists counts h = ap sum (sym (take_all n counts (omega (arith, h.pages)))) ∙ sum_is_start n lists counts h n (omega arith)
