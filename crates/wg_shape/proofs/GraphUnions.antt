-- What holds of all unions of graphs.
use Rattle.std.proofs.Common.{◌≡◌, ℕ, zero, suc, ◌+◌, ◌<◌, ◌≤◌, max, Bool, false, ◌||◌, inl, inr, List, [], length, get_or, refl, sym, ap, subst, ◌∙◌, arith}
use Rattle.std.specs.List.{sum_by}
use Rattle.std.proofs.lemmas.Bool.{cases_lt, cases_eq}
use Rattle.std.proofs.lemmas.List.{get_or_past, take_all}
use Rattle.std.proofs.lemmas.List.Elements.{All-from_get_or}
use Rattle.std.proofs.lemmas.List.FromFn.{length-map-range_with_len, get_or-map-range_with_len, sum_by-map-range_with_len_more, fill_by_all}
use Rattle.wg_graph.specs.Ascending.{Ascends, Below}
use Rattle.wg_graph.specs.Numbers.{is_in}
use Rattle.wg_graph.specs.Digraph.{Digraph, IsGraph, successors}
use Rattle.wg_graph.specs.Arcs.{has_arc}
use Rattle.wg_graph.specs.Growing.{padded}
use Rattle.wg_graph.proofs.Sets.{below_more}
use Rattle.wg_graph.proofs.Prefixes.{padded_at, length-padded}
use Rattle.wg_transpose.proofs.Reversed.{list_ascends, list_below}
use Rattle.wg_graph.specs.Unions.{union_of}
use Rattle.wg_shape.specs.Added.{Added}
use Rattle.wg_shape.specs.Graphs.{IsUnion, both, lists_of, union_graph, UnionSoFar}
use Rattle.wg_graph.proofs.NumberByNumber.{union_ascends}
use Rattle.wg_shape.proofs.Unions.{union_below, in_union}
use Rattle.wg_shape.proofs.Quotients.{same_graph}

-- ---- lists of any page

pub none_past : (g : Digraph) → IsGraph g → (x : ℕ) → g.nodes ≤ x → successors g x ≡ []
none_past g ok x past = get_or_past g.lists x [] (omega (arith, ok.counted))

ascends_any : (g : Digraph) → IsGraph g → (x : ℕ) → Ascends 0 (successors g x)
ascends_any g ok x = elim (cases_lt x g.nodes) [ inl lt ↦ list_ascends g ok x lt | inr past ↦ subst (Ascends 0) (sym (none_past g ok x past)) tt ]

below_any : (g : Digraph) → IsGraph g → (m x : ℕ) → g.nodes ≤ m → Below m (successors g x)
below_any g ok m x le = elim (cases_lt x g.nodes) [
  | inl lt ↦ below_more g.nodes m (successors g x) le (list_below g ok x lt)
  | inr past ↦ subst (Below m) (sym (none_past g ok x past)) tt
]

-- the list of a page in both is one of a graph with the pages of the larger
pub both_ascends : (g h : Digraph) → IsGraph g → IsGraph h → (x : ℕ) → Ascends 0 (both g h x)
both_ascends g h g_ok h_ok x = union_ascends 0 (successors g x) (successors h x) (ascends_any g g_ok x) (ascends_any h h_ok x)

pub both_below : (g h : Digraph) → IsGraph g → IsGraph h → (m x : ℕ) → g.nodes ≤ m → h.nodes ≤ m → Below m (both g h x)
both_below g h g_ok h_ok m x g_le h_le = union_below m (successors g x) (successors h x) (below_any g g_ok m x g_le) (below_any h h_ok m x h_le)

-- ---- page after page

pub both_are : (g h : Digraph) (x : ℕ) (numbers a b left right : List ℕ) → numbers ≡ union_of a b → a ≡ left → b ≡ right → left ≡ successors g x → right ≡ successors h x → numbers ≡ both g h x
both_are g h x numbers a b left right made a_is b_is left_is right_is = made ∙ ap (λ (l : List ℕ). union_of l b) (a_is ∙ left_is) ∙ ap (union_of (successors g x)) (b_is ∙ right_is)

pub union_more : (g h b after : Digraph) (x : ℕ) → UnionSoFar g h x b → Added (both g h x) x (length (both g h x)) b after → UnionSoFar g h (x + 1) after
union_more g h b after x u a = record {
  nodes = a.nodes ∙ u.nodes;
  begun = a.begun;
  done = λ y lt. elim (cases_eq y x) [
    | inl same ↦ rw same (a.here ∙ take_all (length (both g h x)) (both g h x) (omega arith))
    | inr other ↦ a.others y other ∙ u.done y (omega arith)
  ];
  arcs = omega (arith, a.arcs, u.arcs, sum_by-map-range_with_len_more (λ (s : List ℕ). length s) (both g h) 0 x x (omega arith));
}

-- page x and those before it have no more arcs than all
pub part_le : (g h : Digraph) (x n : ℕ) → x < n → sum_by (λ s. length s) (lists_of g h x) + length (both g h x) ≤ sum_by (λ s. length s) (lists_of g h n)
part_le g h x zero lt = absurd (omega arith)
part_le g h x (suc n) lt = grind (arith, sum_by-map-range_with_len_more (λ (s : List ℕ). length s) (both g h) 0 n n, part_le g h x n)

same_parts : (g h : Digraph) → g.nodes ≡ h.nodes → g.lists ≡ h.lists → g ≡ h
same_parts g h nodes lists = λ i. record { nodes = nodes i; lists = lists i }

pub finished : (g h b u : Digraph) → UnionSoFar g h (max g.nodes h.nodes) b → u.nodes ≡ b.nodes → u.lists ≡ padded b.nodes b.lists → u ≡ union_graph g h
finished g h b u so_far nodes lists =
    let n : ℕ = max g.nodes h.nodes in
    let size : length u.lists ≡ n = ap length lists ∙ length-padded b.nodes b.lists (omega (arith, so_far.begun, so_far.nodes)) ∙ so_far.nodes in
    same_parts u (union_graph g h) (nodes ∙ so_far.nodes)
    (fill_by_all (both g h) u.lists n [] size (λ x lt. ap (λ (l : List (List ℕ)). get_or l x []) lists ∙ padded_at b.nodes b.lists x ∙ so_far.done x lt))

-- ---- the union

list_at : (g h : Digraph) (x : ℕ) → x < max g.nodes h.nodes → successors (union_graph g h) x ≡ both g h x
list_at g h x lt = get_or-map-range_with_len (both g h) 0 (max g.nodes h.nodes) x x [] lt (omega arith)

pub is_union : (g h : Digraph) → IsGraph g → IsGraph h → IsUnion g h (union_graph g h)
is_union g h g_ok h_ok =
    let n : ℕ = max g.nodes h.nodes in
    let lists : List (List ℕ) = lists_of g h n in
    let size : length lists ≡ n = length-map-range_with_len (both g h) 0 n in
    record {
      nodes = refl;
      proper = record {
        counted = size;
        ascending = All-from_get_or (Ascends 0) lists [] (λ x lt. subst (Ascends 0) (sym (list_at g h x (omega arith))) (both_ascends g h g_ok h_ok x));
        below = All-from_get_or (Below n) lists [] (λ x lt. subst (Below n) (sym (list_at g h x (omega arith))) (both_below g h g_ok h_ok n x (omega arith) (omega arith)));
      };
      arcs = λ x v. elim (cases_lt x n) [
        | inl lt ↦ ap (is_in v) (list_at g h x lt) ∙ in_union v (successors g x) (successors h x)
        | inr past ↦
            let none : has_arc (union_graph g h) x v ≡ false = ap (is_in v) (get_or_past lists x [] (omega arith)) in
            let not_first : has_arc g x v ≡ false = ap (is_in v) (none_past g g_ok x (omega arith)) in
            let not_second : has_arc h x v ≡ false = ap (is_in v) (none_past h h_ok x (omega arith)) in
            rw (none, not_first, not_second) refl
      ];
    }

pub one_union : (g h u w : Digraph) → IsUnion g h u → IsUnion g h w → u ≡ w
one_union g h u w a b = same_graph u w a.proper b.proper (a.nodes ∙ sym b.nodes) (λ x v. a.arcs x v ∙ sym (b.arcs x v))

or_same : (b : Bool) → (b || b) ≡ b
or_same b = grind arith

or_comm : (a b : Bool) → (a || b) ≡ (b || a)
or_comm a b = grind arith

pub with_itself : (g : Digraph) → IsGraph g → union_graph g g ≡ g
with_itself g ok = one_union g g (union_graph g g) g (is_union g g ok ok) (record { nodes = omega arith; proper = ok; arcs = λ x v. sym (or_same (has_arc g x v)) })

pub either_way : (g h : Digraph) → IsGraph g → IsGraph h → union_graph g h ≡ union_graph h g
either_way g h g_ok h_ok =
    let back = is_union h g h_ok g_ok in
    one_union g h (union_graph g h) (union_graph h g) (is_union g h g_ok h_ok)
    (record { nodes = omega arith; proper = back.proper; arcs = λ x v. back.arcs x v ∙ or_comm (has_arc h x v) (has_arc g x v) })
