-- The numbers of a list that are added one by one.
use Rattle.std.proofs.Common.{◌≡◌, ℕ, suc, ◌+◌, ◌<◌, ◌≤◌, List, [], ◌∷◌, ◌++◌, length, take, get_or, refl, sym, ap, ◌∙◌, arith, length-append, append_assoc}
use Rattle.std.specs.List.{sum_by}
use Rattle.std.proofs.lemmas.List.{take_at}
use Rattle.wg_graph.specs.Ascending.{Ascends, Below}
use Rattle.wg_graph.specs.Digraph.{Digraph, successors, arc_count}
use Rattle.wg_graph.specs.Growing.{with_arc}
use Rattle.wg_graph.proofs.Prefixes.{length-with_arc, with_arc_here, with_arc_other, with_arc_count}
use Rattle.wg_shape.specs.Added.{Added}

ascends_at : (n : ℕ) (xs : List ℕ) (v : ℕ) (ys : List ℕ) → Ascends n (xs ++ v ∷ ys) → n ≤ v
ascends_at n [] v ys h = h.0
ascends_at n (x ∷ xs) v ys h = omega (arith, h.0, ascends_at (suc x) xs v ys h.1)

-- a number of an ascending list is above those before it
pub below_front : (n : ℕ) (xs : List ℕ) (v : ℕ) (ys : List ℕ) → Ascends n (xs ++ v ∷ ys) → Below v xs
below_front n [] v ys h = tt
below_front n (x ∷ xs) v ys h = (omega (arith, ascends_at (suc x) xs v ys h.1), below_front (suc x) xs v ys h.1)

pub below_at : (m : ℕ) (xs : List ℕ) (v : ℕ) (ys : List ℕ) → Below m (xs ++ v ∷ ys) → v < m
below_at m [] v ys h = h.0
below_at m (x ∷ xs) v ys h = below_at m xs v ys h.1

pub added_more : (list rest : List ℕ) (x v : ℕ) (before b after : Digraph) → Added list x (length (successors b x)) before b → list ≡ successors b x ++ v ∷ rest → after.nodes ≡ b.nodes → after.lists ≡ with_arc b.lists x v
    → Added list x (length (successors after x)) before after
added_more list rest x v before b after h parts nodes lists =
    let now : successors after x ≡ successors b x ++ v ∷ [] = ap (λ (l : List (List ℕ)). get_or l x []) lists ∙ with_arc_here b.lists x v h.begun in
    let whole : list ≡ successors after x ++ rest = parts ∙ sym (append_assoc (successors b x) (v ∷ []) rest) ∙ ap (λ (l : List ℕ). l ++ rest) (sym now) in
    let longer : length (successors after x) ≡ length (successors b x) + 1 = ap length now ∙ length-append (successors b x) (v ∷ []) in
    record {
      nodes = nodes ∙ h.nodes;
      begun = omega (arith, ap length lists, length-with_arc b.lists x v h.begun);
      within = omega (arith, ap length whole, length-append (successors after x) rest);
      here = sym (ap (take (length (successors after x))) whole ∙ take_at (successors after x) rest (length (successors after x)) refl);
      others = λ y other. ap (λ (l : List (List ℕ)). get_or l y []) lists ∙ with_arc_other b.lists x v y other ∙ h.others y other;
      arcs = omega (arith, ap (sum_by (λ (l : List ℕ). length l)) lists, with_arc_count b.lists x v h.begun, h.arcs, longer);
    }

-- what follows is a part of the list
pub parts_more : (list rest : List ℕ) (x v : ℕ) (b after : Digraph) → length b.lists ≤ x + 1 → list ≡ successors b x ++ v ∷ rest → after.lists ≡ with_arc b.lists x v → list ≡ successors after x ++ rest
parts_more list rest x v b after last parts lists =
    let now : successors after x ≡ successors b x ++ v ∷ [] = ap (λ (l : List (List ℕ)). get_or l x []) lists ∙ with_arc_here b.lists x v last in
    parts ∙ sym (append_assoc (successors b x) (v ∷ []) rest) ∙ ap (λ (l : List ℕ). l ++ rest) (sym now)

pub one_arc : (x v : ℕ) (b after : Digraph) → length b.lists ≤ x + 1 → after.lists ≡ with_arc b.lists x v → arc_count after ≡ arc_count b + 1
one_arc x v b after last lists = ap (sum_by (λ (l : List ℕ). length l)) lists ∙ with_arc_count b.lists x v last
