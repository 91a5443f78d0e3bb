-- What holds of all transposed graphs.
use Rattle.std.proofs.Common.{◌≡◌, ℕ, ◌+◌, ◌<◌, ◌≤◌, false, List, [], length, map, refl, sym, ap, subst, ◌∙◌, arith, inl, inr}
use Rattle.std.specs.List.{range_with_len}
use Rattle.std.proofs.lemmas.Bool.{cases_lt}
use Rattle.std.proofs.lemmas.List.{get_or_past}
use Rattle.std.proofs.lemmas.List.Elements.{All-from_get_or}
use Rattle.std.proofs.lemmas.List.FromFn.{length-map-range_with_len, get_or-map-range_with_len, fill_by_all}
use Rattle.wg_graph.specs.Ascending.{Ascends, Below}
use Rattle.wg_graph.specs.Numbers.{is_in, numbers_where}
use Rattle.wg_graph.specs.Digraph.{Digraph, IsGraph, successors}
use Rattle.wg_graph.specs.Arcs.{has_arc}
use Rattle.wg_graph.proofs.Sets.{ascends-where, below-where, is_in-where, where_same, ascending_is, in_past}
use Rattle.wg_transpose.specs.Transposed.{predecessors, transposed}
use Rattle.wg_transpose.specs.Laws.{ArcsAreReversed, TransposedIsProper, TwiceGivesBack, ReversedIsOne}

-- ---- a graph's lists

pub list_ascends : (g : Digraph) → IsGraph g → (u : ℕ) → u < g.nodes → Ascends 0 (successors g u)
list_ascends g ok u h = ok.ascending u [] (omega (arith, ok.counted))

pub list_below : (g : Digraph) → IsGraph g → (u : ℕ) → u < g.nodes → Below g.nodes (successors g u)
list_below g ok u h = ok.below u [] (omega (arith, ok.counted))

-- no arc leaves what is no page
none_from : (g : Digraph) → IsGraph g → (u v : ℕ) → g.nodes ≤ u → has_arc g u v ≡ false
none_from g ok u v past = ap (is_in v) (get_or_past g.lists u [] (omega (arith, ok.counted)))

-- no arc leads to what is no page
none_to : (g : Digraph) → IsGraph g → (u v : ℕ) → g.nodes ≤ v → has_arc g u v ≡ false
none_to g ok u v past = grind (arith, cases_lt, in_past, list_below, none_from)

-- the list of a page has the targets of its arcs
pub list_is : (g : Digraph) → IsGraph g → (u : ℕ) → u < g.nodes → successors g u ≡ numbers_where (λ v. has_arc g u v) 0 g.nodes
list_is g ok u lt =
    let e : g.nodes ≡ 0 + g.nodes = omega arith in
    ascending_is 0 g.nodes (successors g u) (list_ascends g ok u lt) (subst (λ m. Below m (successors g u)) e (list_below g ok u lt))

-- ---- the transposed graph's lists

pub successors_are : (g : Digraph) (v : ℕ) → v < g.nodes → successors (transposed g) v ≡ predecessors g v
successors_are g v lt = get_or-map-range_with_len (predecessors g) 0 g.nodes v v [] lt (omega arith)

pub is_proper : TransposedIsProper
is_proper g =
    let lists : List (List ℕ) = map (predecessors g) (range_with_len 0 g.nodes) in
    let size : length lists ≡ g.nodes = length-map-range_with_len (predecessors g) 0 g.nodes in
    record {
      counted = size;
      ascending = All-from_get_or (Ascends 0) lists [] (λ v lt. subst (Ascends 0) (sym (successors_are g v (omega arith))) (ascends-where (λ u. has_arc g u v) 0 g.nodes));
      below = All-from_get_or (Below g.nodes) lists [] (λ v lt. subst (Below g.nodes) (sym (successors_are g v (omega arith))) (below-where (λ u. has_arc g u v) 0 g.nodes g.nodes (omega arith)));
    }

pub are_reversed : ArcsAreReversed
are_reversed g ok u v =
    elim (cases_lt v g.nodes) [
      | inl target ↦ elim (cases_lt u g.nodes) [
        | inl source ↦ ap (is_in u) (successors_are g v target) ∙ is_in-where (λ w. has_arc g w v) 0 g.nodes u (omega arith) (omega arith)
        | inr past ↦ none_to (transposed g) (is_proper g) v u past ∙ sym (none_from g ok u v past)
      ]
      | inr past ↦ none_from (transposed g) (is_proper g) v u past ∙ sym (none_to g ok u v past)
    ]

same_graph : (g h : Digraph) → g.nodes ≡ h.nodes → g.lists ≡ h.lists → g ≡ h
same_graph g h nodes lists = λ i. record { nodes = nodes i; lists = lists i }

pub is_one : ReversedIsOne
is_one g t ok proper nodes reversed =
    let each : (v : ℕ) → v < g.nodes → successors t v ≡ predecessors g v = λ v lt.
    list_is t proper v (omega arith) ∙ where_same (λ u. has_arc t v u) (λ u. has_arc g u v) 0 t.nodes (λ u low high. reversed u v) ∙ ap (numbers_where (λ u. has_arc g u v) 0) nodes in
    same_graph t (transposed g) nodes (fill_by_all (predecessors g) t.lists g.nodes [] (omega (arith, proper.counted)) each)

pub gives_back : TwiceGivesBack
gives_back g ok = sym (is_one (transposed g) g (is_proper g) ok refl (λ u v. sym (are_reversed g ok v u)))
