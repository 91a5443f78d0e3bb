-- Graphs that grow page by page or arc by arc.
use Rattle.std.proofs.Common.{◌≡◌, ℕ, zero, suc, ◌+◌, ◌-◌, ◌≤◌, List, [], ◌∷◌, ◌++◌, length, get_or, replicate, refl, sym, ap, subst, ◌∙◌, arith, inl, inr, length-append, length-set}
use Rattle.std.specs.List.{sum_by}
use Rattle.std.proofs.lemmas.Bool.{cases_lt}
use Rattle.std.proofs.lemmas.List.{length-replicate, get_or_past, get_or_append_left, get_or-append_right, get_or-set_same, get_or-set_other}
use Rattle.std.proofs.lemmas.List.Elements.{All-get_or, All-set, All-append, All-replicate}
use Rattle.std.proofs.lemmas.List.Sums.{sum_by-cons, sum_by-append, sum_by-set}
use Rattle.wg_graph.specs.Ascending.{Ascends, Below}
use Rattle.wg_graph.specs.Digraph.{Digraph, IsGraph, IsGraphPrefix, successors}
use Rattle.wg_graph.specs.Growing.{FollowsOn, padded, with_arc}
use Rattle.wg_graph.proofs.Sets.{ascends_push, below_push}

-- ---- what padding and an arc leave

nothing_at : (k x : ℕ) → ◌≡◌ {A = List ℕ} (get_or (replicate k []) x []) []
nothing_at zero x = refl
nothing_at (suc k) zero = refl
nothing_at (suc k) (suc x) = nothing_at k x

-- padding leaves the successors of each page
pub padded_at : (n : ℕ) (lists : List (List ℕ)) (x : ℕ) → get_or (padded n lists) x [] ≡ get_or lists x []
padded_at n lists x =
    let k : ℕ = n - length lists in
    elim (cases_lt x (length lists)) [
      | inl lt ↦ get_or_append_left lists (replicate k []) [] x lt
      | inr le ↦ get_or-append_right lists (replicate k []) (length lists) x [] refl le ∙ nothing_at k (x - length lists) ∙ sym (get_or_past lists x [] le)
    ]

pub length-padded : (n : ℕ) (lists : List (List ℕ)) → length lists ≤ n → length (padded n lists) ≡ n
length-padded n lists le = omega (arith, length-append lists (replicate (n - length lists) []), length-replicate {A = List ℕ} (n - length lists) [])

no_arcs : (k : ℕ) → sum_by (λ (l : List ℕ). length l) (replicate k []) ≡ 0
no_arcs zero = refl
no_arcs (suc k) = let rest = no_arcs k in omega (arith, sum_by-cons (λ (l : List ℕ). length l) [] (replicate k []))

pub padded_arcs : (n : ℕ) (lists : List (List ℕ)) → sum_by (λ (l : List ℕ). length l) (padded n lists) ≡ sum_by (λ (l : List ℕ). length l) lists
padded_arcs n lists = let none = no_arcs (n - length lists) in omega (arith, sum_by-append (λ (l : List ℕ). length l) lists (replicate (n - length lists) []))

pub length-with_arc : (lists : List (List ℕ)) (x v : ℕ) → length lists ≤ x + 1 → length (with_arc lists x v) ≡ x + 1
length-with_arc lists x v le = length-set (padded (x + 1) lists) x (get_or lists x [] ++ v ∷ []) ∙ length-padded (x + 1) lists le

-- the page has one successor more, at the end
pub with_arc_here : (lists : List (List ℕ)) (x v : ℕ) → length lists ≤ x + 1 → get_or (with_arc lists x v) x [] ≡ get_or lists x [] ++ v ∷ []
with_arc_here lists x v le = get_or-set_same (padded (x + 1) lists) x (get_or lists x [] ++ v ∷ []) [] (omega (arith, length-padded (x + 1) lists le))

-- the other pages have what they had
pub with_arc_other : (lists : List (List ℕ)) (x v y : ℕ) → (y ≡ x → ⊥) → get_or (with_arc lists x v) y [] ≡ get_or lists y []
with_arc_other lists x v y ne = get_or-set_other (padded (x + 1) lists) x y (get_or lists x [] ++ v ∷ []) [] ne ∙ padded_at (x + 1) lists y

pub with_arc_count : (lists : List (List ℕ)) (x v : ℕ) → length lists ≤ x + 1 → sum_by (λ (l : List ℕ). length l) (with_arc lists x v) ≡ sum_by (λ (l : List ℕ). length l) lists + 1
with_arc_count lists x v le =
    let size = length-padded (x + 1) lists le in
    let one = sum_by-set (λ (l : List ℕ). length l) (padded (x + 1) lists) x (get_or lists x [] ++ v ∷ []) [] (omega arith) in
    let here : length (get_or (padded (x + 1) lists) x []) ≡ length (get_or lists x []) = ap length (padded_at (x + 1) lists x) in
    omega (arith, padded_arcs (x + 1) lists, length-append (get_or lists x []) (v ∷ []))

-- ---- prefixes

pub prefix_ascends : (g : Digraph) → IsGraphPrefix g → (x : ℕ) → Ascends 0 (successors g x)
prefix_ascends g h x =
    elim (cases_lt x (length g.lists)) [
      | inl lt ↦ All-get_or (Ascends 0) g.lists x [] lt h.ascending
      | inr le ↦ subst (Ascends 0) (sym (get_or_past g.lists x [] le)) tt
    ]

pub prefix_below : (g : Digraph) → IsGraphPrefix g → (x : ℕ) → Below g.nodes (successors g x)
prefix_below g h x =
    elim (cases_lt x (length g.lists)) [
      | inl lt ↦ All-get_or (Below g.nodes) g.lists x [] lt h.below
      | inr le ↦ subst (Below g.nodes) (sym (get_or_past g.lists x [] le)) tt
    ]

pub prefix_with_arc : (g : Digraph) (x v : ℕ) → IsGraphPrefix g → FollowsOn g x v → IsGraphPrefix (record { nodes = g.nodes; lists = with_arc g.lists x v })
prefix_with_arc g x v h f =
    let k : ℕ = x + 1 - length g.lists in
    let asc : Ascends 0 (successors g x ++ v ∷ []) = ascends_push 0 v (successors g x) (omega arith) (prefix_ascends g h x) f.above in
    let low : Below g.nodes (successors g x ++ v ∷ []) = below_push g.nodes v (successors g x) f.target (prefix_below g h x) in
    record {
      begun = let e = length-with_arc g.lists x v f.not_past in let lt = f.source in omega arith;
      ascending = All-set (Ascends 0) (padded (x + 1) g.lists) x (successors g x ++ v ∷ []) asc (All-append (Ascends 0) g.lists (replicate k []) h.ascending (All-replicate (Ascends 0) k [] tt));
      below = All-set (Below g.nodes) (padded (x + 1) g.lists) x (successors g x ++ v ∷ []) low (All-append (Below g.nodes) g.lists (replicate k []) h.below (All-replicate (Below g.nodes) k [] tt));
      few_pages = h.few_pages;
      few_arcs = let e = with_arc_count g.lists x v f.not_past in let room = f.room in omega arith;
    }

pub graph_of_prefix : (g : Digraph) → IsGraphPrefix g → length g.lists ≡ g.nodes → IsGraph g
graph_of_prefix g h e = record { counted = e; ascending = h.ascending; below = h.below }
