-- Which arc comes after those of a graph.
use Rattle.std.proofs.Common.{◌≡◌, ℕ, suc, ◌+◌, ◌-◌, ◌<◌, true, ltb, List, [], ◌∷◌, ◌++◌, map, length, take, get_or, Option, Some, None, refl, sym, ap, subst, ◌∙◌, arith, inl, inr, eq-eqb}
use Rattle.std.specs.List.{last_or}
use Rattle.std.proofs.lemmas.Bool.{cases_lt, lt-ltb, le-ltb, ltb-true, lt-leb}
use Rattle.std.proofs.lemmas.List.{get_or_past, length-take-le}
use Rattle.wg_params.specs.declared.limits.TheConstants.{MOST_ARCS}
use Rattle.wg_graph.specs.Ascending.{Ascends, Below}
use Rattle.wg_graph.specs.Digraph.{Digraph, successors}
use Rattle.wg_graph.specs.Arcs.{arcs_of, arcs_from}
use Rattle.wg_graph.specs.Growing.{ComesAfter}
use Rattle.wg_graph.proofs.Arcs.{last_list, split_last}
use Rattle.wg_graph.proofs.Growth.{past_last}
use Rattle.wg_arcs.specs.Reading.{is_before, is_after, refusal_after}

abbrev pub Arc : Type 0
Arc = ℕ × ℕ

pub last_or-append : (o : Option Arc) (xs ys : List Arc) → last_or o (xs ++ ys) ≡ last_or (last_or o xs) ys
last_or-append o [] ys = refl
last_or-append o (x ∷ xs) ys = last_or-append _ xs ys

last_or-map : (o : Option Arc) (m b : ℕ) (bs : List ℕ) → last_or o (map (λ v. (m, v)) (b ∷ bs)) ≡ Some (m, get_or (b ∷ bs) (length bs) 0)
last_or-map o m b [] = refl
last_or-map o m b (c ∷ bs) = last_or-map (Some (m, b)) m c bs

last_or-list : (o : Option Arc) (m : ℕ) (list : List ℕ) → 0 < length list → last_or o (map (λ v. (m, v)) list) ≡ Some (m, get_or list (length list - 1) 0)
last_or-list o m [] some = absurd (omega arith)
last_or-list o m (b ∷ bs) some = let e : suc _ - 1 ≡ length bs = omega arith in last_or-map o m b bs ∙ ap (λ (k : ℕ). Some (m, get_or (b ∷ bs) k 0)) (sym e)

pub before_lower : (m t x v : ℕ) → m < x → is_before (m, t) (x, v) ≡ true
before_lower m t x v lt = rw (lt-ltb m x lt) refl

pub before_same : (m t x v : ℕ) → m ≡ x → is_before (m, t) (x, v) ≡ ltb t v
before_same m t x v e = rw (le-ltb m x (omega arith), eq-eqb m x e) refl

-- one page's arcs by their second numbers
pub before_next : (u v w : ℕ) → v < w → is_before (u, v) (u, w) ≡ true
before_next u v w lt = before_same u v u w refl ∙ lt-ltb v w lt

-- the last page that is begun is m, and its last successor is t
record EndsAtArc (g : Digraph) (m t : ℕ) : Type 0 where
  size : length g.lists ≡ m + 1
  some : 0 < length (successors g m)
  last : t ≡ get_or (successors g m) (length (successors g m) - 1) 0
  arc : last_or None (arcs_of g) ≡ Some (m, t)

ends_at : (g : Digraph) (m : ℕ) → length g.lists ≡ m + 1 → (0 < length g.lists → 0 < length (successors g (length g.lists - 1))) → EndsAtArc g m (get_or (successors g m) (length (successors g m) - 1) 0)
ends_at g m size ends =
    let at : length g.lists - 1 ≡ m = omega arith in
    let some : 0 < length (successors g m) = subst (λ (k : ℕ). 0 < length (successors g k)) at (ends (omega arith)) in
    let init : List (List ℕ) = take m g.lists in
    record {
      size = size;
      some = some;
      last = refl;
      arc = ap (λ (ls : List (List ℕ)). last_or None (arcs_from 0 ls)) (split_last g.lists m size) ∙ ap (last_or None) (last_list init (successors g m) m (length-take-le m g.lists (omega arith)))
          ∙ last_or-append None (arcs_from 0 init) _ ∙ last_or-list _ m (successors g m) some;
    }

after_arc : (g : Digraph) (m t x v : ℕ) → ((y : ℕ) → Ascends 0 (successors g y)) → EndsAtArc g m t → is_before (m, t) (x, v) ≡ true → ComesAfter g x v
after_arc g m t x v up h b = grind (arith, ltb-true, get_or_past, past_last)

-- an arc that comes after the last one comes after all
pub after_all : (g : Digraph) (x v : ℕ) → ((y : ℕ) → Ascends 0 (successors g y)) → (0 < length g.lists → 0 < length (successors g (length g.lists - 1))) → is_after (last_or None (arcs_of g)) (x, v) ≡ true → ComesAfter g x v
after_all g x v up ends b =
    elim (cases_lt 0 (length g.lists)) [
      | inl some ↦
          let m : ℕ = length g.lists - 1 in
          let h = ends_at g m (omega arith) ends in
          let t : ℕ = get_or (successors g m) _ 0 in
          after_arc g m t x v up h (ap (λ (o : Option Arc). is_after o (x, v)) (sym h.arc) ∙ b)
      | inr none ↦ record { not_past = omega arith; above = subst (Below v) (sym (get_or_past g.lists x [] (omega arith))) tt }
    ]

-- ---- why an arc is refused

pub not_refused : (n u v count : ℕ) (last : Option Arc) → u < n → v < n → is_after last (u, v) ≡ true → count < MOST_ARCS → refusal_after n last count (Some (u, v)) ≡ None
not_refused n u v count last source target after few = rw (lt-leb n u source, lt-leb n v target, after, lt-ltb count MOST_ARCS few) refl
