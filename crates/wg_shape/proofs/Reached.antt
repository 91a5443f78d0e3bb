-- What the arcs of each class lead to, while the pages are gone through.
use Rattle.std.proofs.Common.{◌≡◌, ℕ, zero, suc, ◌+◌, ◌-◌, ◌<◌, ◌≤◌, Bool, true, false, cond, eqb, List, [], ◌∷◌, ◌++◌, length, take, map, get_or, set, refl, sym, ap, ◌∙◌, arith, inl, inr, append-nil, length-append, length-set, get_or-set_same, get_or-set_other}
use Rattle.std.proofs.lemmas.Bool.{cases_eq, ne_eqb, eq-eqb}
use Rattle.std.proofs.lemmas.List.{take_all, take_more, map-append, append_assoc, length-map}
use Rattle.wg_graph.specs.Digraph.{Digraph, successors}
use Rattle.wg_graph.specs.Numbers.{numbers_where}
use Rattle.wg_transpose.specs.SoFar.{onward, AreCounts, ArePrefixes, OneMore}
use Rattle.wg_transpose.proofs.Seen.{where_more}
use Rattle.wg_transpose.proofs.Places.{same_prefixes}
use Rattle.wg_shape.specs.Quotient.{class_of, reached}
use Rattle.wg_shape.specs.Classes.{reached_by, reached_below}

pub reached_push : (g : Digraph) (classes us : List ℕ) (u : ℕ) → reached g classes (us ++ u ∷ []) ≡ reached g classes us ++ map (class_of classes) (successors g u)
reached_push g classes [] u = append-nil (map (class_of classes) (successors g u))
reached_push g classes (w ∷ us) u =
    ap (λ (l : List ℕ). map (class_of classes) (successors g w) ++ l) (reached_push g classes us u)
    ∙ sym (append_assoc (map (class_of classes) (successors g w)) (reached g classes us) (map (class_of classes) (successors g u)))

module _ (g : Digraph) (classes : List ℕ) (k : ℕ) where
  -- those of the pages below page k, and what was seen of the list of page k
  abbrev pub with_arcs : List ℕ → ℕ → List ℕ
  with_arcs seen i = reached_below g classes k i ++ cond (eqb i (class_of classes k)) (map (class_of classes) seen) []

  page_if : (us : List ℕ) (b : Bool) → reached g classes (us ++ cond b (k ∷ []) []) ≡ reached g classes us ++ cond b (map (class_of classes) (successors g k)) []
  page_if us true = reached_push g classes us k
  page_if us false = ap (reached g classes) (append-nil us) ∙ sym (append-nil (reached g classes us))

  pub all_seen : (i : ℕ) → reached_below g classes (k + 1) i ≡ with_arcs (successors g k) i
  all_seen i =
      let t : ℕ → Bool = λ u. eqb i (class_of classes u) in
      ap (reached g classes) (where_more t k) ∙ page_if (numbers_where t 0 k) (t k)

  pub class_more : (j : ℕ) (list : List ℕ) → j < length list → OneMore (with_arcs (take j list)) (with_arcs (take (j + 1) list)) (class_of classes k) (class_of classes (get_or list j 0))
  class_more j list lt =
      let more : take (j + 1) list ≡ take j list ++ get_or list j 0 ∷ [] = take_more list j 0 lt in
      rw more (record {
        here =
            let own : eqb (class_of classes k) (class_of classes k) ≡ true = eq-eqb (class_of classes k) (class_of classes k) refl in
            rw own (
            ap (λ (l : List ℕ). reached_below g classes k (class_of classes k) ++ l) (map-append (class_of classes) (take j list) (get_or list j 0 ∷ []))
            ∙ sym (append_assoc (reached_below g classes k (class_of classes k)) (map (class_of classes) (take j list)) (class_of classes (get_or list j 0) ∷ []))
            );
        others = λ w other. rw (ne_eqb w (class_of classes k) other) refl;
      })

-- ---- how long the lists are

length_if : (f : ℕ → ℕ) (xs : List ℕ) (b : Bool) → length (cond b (map f xs) []) ≡ cond b (length xs) 0
length_if f xs b = grind (arith, length-map)

pub length_with : (g : Digraph) (classes : List ℕ) (k : ℕ) (seen : List ℕ) (i : ℕ) → length (with_arcs g classes k seen i) ≡ length (reached_below g classes k i) + cond (eqb i (class_of classes k)) (length seen) 0
length_with g classes k seen i =
    omega (arith, length-append (reached_below g classes k i) (cond (eqb i (class_of classes k)) (map (class_of classes) seen) []), length_if (class_of classes) seen (eqb i (class_of classes k)))

pub length_next : (g : Digraph) (classes : List ℕ) (k i : ℕ) → length (reached_below g classes (k + 1) i) ≡ length (reached_below g classes k i) + cond (eqb i (class_of classes k)) (length (successors g k)) 0
length_next g classes k i = ap length (all_seen g classes k i) ∙ length_with g classes k (successors g k) i

cond_le : (b : Bool) (m n : ℕ) → m ≤ n → cond b m 0 ≤ cond b n 0
cond_le b m n le = grind arith

length_grows : (g : Digraph) (classes : List ℕ) (k d i : ℕ) → length (reached_below g classes k i) ≤ length (reached_below g classes (k + d) i)
length_grows g classes k zero i = omega (arith, ap (λ (m : ℕ). length (reached_below g classes m i)) (let e : k ≡ k + 0 = omega arith in e))
length_grows g classes k (suc d) i =
    let e : k + d + 1 ≡ k + suc d = omega arith in
    omega (arith, length_grows g classes k d i, length_next g classes (k + d) i, ap (λ (m : ℕ). length (reached_below g classes m i)) e)

take_le : (m : ℕ) (xs : List ℕ) → length (take m xs) ≤ length xs
take_le zero xs = omega arith
take_le (suc m) [] = omega arith
take_le (suc m) (x ∷ xs) = omega (arith, take_le m xs)

pub class_fits : (g : Digraph) (classes : List ℕ) (k m : ℕ) (list : List ℕ) → k < length classes → list ≡ successors g k → (i : ℕ) → length (with_arcs g classes k (take m list) i) ≤ length (reached_by g classes i)
class_fits g classes k m list lt is i =
    let b : Bool = eqb i (class_of classes k) in
    let d : ℕ = length classes - (k + 1) in
    let e : k + 1 + d ≡ length classes = omega arith in
    omega (
      arith,
      length_with g classes k (take m list) i,
      cond_le b (length (take m list)) (length (successors g k)) (omega (arith, take_le m list, ap length is)),
      length_next g classes k i,
      length_grows g classes (k + 1) d i,
      ap (λ (n : ℕ). length (reached_below g classes n i)) e,
    )

-- ---- counting

pub counted_more : (g : Digraph) (classes : List ℕ) (n k : ℕ) (list counts : List ℕ) → class_of classes k < n → list ≡ successors g k → AreCounts n (reached_below g classes k) counts
    → AreCounts n (reached_below g classes (k + 1)) (set counts (class_of classes k) (get_or counts (class_of classes k) 0 + length list))
counted_more g classes n k list counts below is h =
    let c : ℕ = class_of classes k in
    record {
      pages = length-set counts c (get_or counts c 0 + length list) ∙ h.pages;
      each = λ i lt. elim (cases_eq i c) [
        | inl same ↦
            let own : eqb c c ≡ true = eq-eqb c c refl in
            let next = rw own at (length_next g classes k c) in
            rw same (omega (arith, get_or-set_same counts c (get_or counts c 0 + length list) 0 (omega (arith, h.pages)), h.each c below, next, ap length is))
        | inr other ↦
            let away : eqb i c ≡ false = ne_eqb i c other in
            let next = rw away at (length_next g classes k i) in
            omega (arith, get_or-set_other counts c i (get_or counts c 0 + length list) 0 other, h.each i lt, next)
      ];
    }

-- ---- placing

module _ (g : Digraph) (classes : List ℕ) (first n k : ℕ) (ends all : List ℕ) where
  abbrev whole : ℕ → List ℕ
  whole = onward first (reached_by g classes)

  pub page_end : (j : ℕ) (list : List ℕ) → length list ≤ j → list ≡ successors g k → ArePrefixes n whole (onward first (with_arcs g classes k (take j list))) ends all
      → ArePrefixes n whole (onward first (reached_below g classes (k + 1))) ends all
  page_end j list past is h =
      let same : (i : ℕ) → with_arcs g classes k (take j list) i ≡ reached_below g classes (k + 1) i = λ i.
      ap (λ (seen : List ℕ). with_arcs g classes k seen i) (take_all j list past ∙ is) ∙ sym (all_seen g classes k i) in
      same_prefixes n whole (onward first (with_arcs g classes k (take j list))) (onward first (reached_below g classes (k + 1))) ends all (λ w lt. same (first + w)) h
