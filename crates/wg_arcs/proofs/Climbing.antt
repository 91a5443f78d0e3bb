-- The arcs of a graph ascend, and are between its pages.
use Rattle.std.proofs.Common.{◌≡◌, ℕ, zero, suc, ◌+◌, ◌<◌, ◌≤◌, true, List, [], ◌∷◌, ◌++◌, map, length, take, get_or, Option, Some, arith}
use Rattle.std.specs.List.{last_or, All}
use Rattle.std.proofs.lemmas.List.Elements.{All-head, All-tail}
use Rattle.wg_graph.specs.Ascending.{Ascends, Below}
use Rattle.wg_graph.specs.Arcs.{arcs_from}
use Rattle.wg_arcs.specs.Reading.{is_after}
use Rattle.wg_arcs.proofs.Order.{Arc, before_lower, before_next}

-- each arc comes after the one before it, the first after o
abbrev pub Climbs : Option Arc → List Arc → Type 0
Climbs o [] = Unit {0}
Climbs o (a ∷ arcs) = (is_after o a ≡ true) × Climbs (Some a) arcs

pub climbs_at : (o : Option Arc) (arcs : List Arc) (i : ℕ) (d : Arc) → Climbs o arcs → i < length arcs → is_after (last_or o (take i arcs)) (get_or arcs i d) ≡ true
climbs_at o [] i d h lt = absurd (omega arith)
climbs_at o (a ∷ arcs) zero d h lt = h.0
climbs_at o (a ∷ arcs) (suc i) d h lt = climbs_at (Some a) arcs i d h.1 (omega arith)

climbs-append : (o : Option Arc) (xs ys : List Arc) → Climbs o xs → Climbs (last_or o xs) ys → Climbs o (xs ++ ys)
climbs-append o [] ys h g = g
climbs-append o (x ∷ xs) ys h g = (h.0, climbs-append _ xs ys h.1 g)

-- o comes before each arc of the pages from u on
abbrev Precedes : Option Arc → ℕ → Type 0
Precedes o u = (x w : ℕ) → u ≤ x → is_after o (x, w) ≡ true

climbs_list : (o : Option Arc) (u k : ℕ) (vs : List ℕ) → ((w : ℕ) → k ≤ w → is_after o (u, w) ≡ true) → Ascends k vs → Climbs o (map (λ v. (u, v)) vs)
climbs_list o u k [] h up = tt
climbs_list o u k (v ∷ vs) h up = (h v up.0, climbs_list _ u (suc v) vs (λ w le. before_next u v w (omega arith)) up.1)

last_precedes : (u v : ℕ) (vs : List ℕ) → Precedes (last_or (Some (u, v)) (map (λ v. (u, v)) vs)) (u + 1)
last_precedes u v [] x w le = before_lower u v x w (omega arith)
last_precedes u v (y ∷ vs) x w le = last_precedes u y vs x w le

list_precedes : (o : Option Arc) (u : ℕ) (vs : List ℕ) → Precedes o u → Precedes (last_or o (map (λ v. (u, v)) vs)) (u + 1)
list_precedes o u [] h x w le = h x w (omega arith)
list_precedes o u (v ∷ vs) h x w le = last_precedes u v vs x w le

pub climbs_from : (o : Option Arc) (u : ℕ) (lists : List (List ℕ)) → Precedes o u → All (Ascends 0) lists → Climbs o (arcs_from u lists)
climbs_from o u [] h up = tt
climbs_from o u (list ∷ lists) h up =
    climbs-append o (map (λ v. (u, v)) list) _ (climbs_list o u 0 list (λ w le. h u w (omega arith)) (All-head (Ascends 0) list lists up))
    (climbs_from _ (u + 1) lists (list_precedes o u list h) (All-tail (Ascends 0) list lists up))

-- the first numbers are below m, the second below n
abbrev pub Within : ℕ → ℕ → List Arc → Type 0
Within m n [] = Unit {0}
Within m n (a ∷ arcs) = (a.0 < m) × (a.1 < n) × Within m n arcs

within-append : (m n : ℕ) (xs ys : List Arc) → Within m n xs → Within m n ys → Within m n (xs ++ ys)
within-append m n [] ys h g = g
within-append m n (x ∷ xs) ys h g = (h.0, h.1, within-append m n xs ys h.2 g)

within_list : (m n u : ℕ) (vs : List ℕ) → u < m → Below n vs → Within m n (map (λ v. (u, v)) vs)
within_list m n u [] lt low = tt
within_list m n u (v ∷ vs) lt low = (lt, low.0, within_list m n u vs lt low.1)

pub within_from : (m n u : ℕ) (lists : List (List ℕ)) → u + length lists ≤ m → All (Below n) lists → Within m n (arcs_from u lists)
within_from m n u [] le low = tt
within_from m n u (list ∷ lists) le low =
    within-append m n _ _ (within_list m n u list (omega arith) (All-head (Below n) list lists low)) (within_from m n (u + 1) lists (omega arith) (All-tail (Below n) list lists low))

pub within_at : (m n : ℕ) (arcs : List Arc) (i : ℕ) (d : Arc) → Within m n arcs → i < length arcs → ((get_or arcs i d).0 < m) × ((get_or arcs i d).1 < n)
within_at m n [] i d h lt = absurd (omega arith)
within_at m n (a ∷ arcs) zero d h lt = (h.0, h.1)
within_at m n (a ∷ arcs) (suc i) d h lt = within_at m n arcs i d h.2 (omega arith)
