-- Bits that stand for a graph stand for a proper one.
use Rattle.std.proofs.Common.{◌≡◌, ℕ, Bool, List, [], ◌∷◌, length, map, reverse, refl, sym, ap, subst, ◌∙◌, arith}
use Rattle.std.specs.Prelude.{All}
use Rattle.std.specs.List.{sum_by}
use Rattle.std.proofs.lemmas.List.{length-reverse, length-map}
use Rattle.std.proofs.lemmas.List.Elements.{All-nil, All-cons, All-map, All-weaker}
use Rattle.std.proofs.lemmas.List.Sorted.{IsPermutation-reverse, All-permutation, sum_by-IsPermutation}
use Rattle.std.proofs.lemmas.List.Sums.{sum_by-cons}
use Rattle.wg_params.specs.Parameters.{Parameters}
use Rattle.wg_graph.specs.Ascending.{Ascends, Below}
use Rattle.wg_grammar.specs.Record.{Whole}
use Rattle.wg_grammar.specs.Archive.{arcs_read, context_of, Pages, lists_of}
use Rattle.wg_grammar.specs.Laws.{GraphIsProper, ArcsAreAsPromised, OffsetsAreAll}
use Rattle.wg_grammar.proofs.OneGraph.{lists_ascend}

abbrev IsProper : Parameters → Whole → Type 0
IsProper p w = Ascends 0 w.known.list × Below p.nodes w.known.list

all_proper : (p : Parameters) (bits : List Bool) (behind : List Whole) (at : ℕ) (ws last : List Whole) (end : ℕ) → All (IsProper p) behind → Pages p bits behind at ws last end → All (IsProper p) last
all_proper p bits behind at [] last end proper h = subst (All (IsProper p)) (sym h.0) proper
all_proper p bits behind at (w ∷ ws) last end proper h =
    all_proper p bits (w ∷ behind) w.end ws last end (All-cons (IsProper p) w behind (lists_ascend p (context_of p behind) bits at w h.1) proper) h.2

-- what is so of the list of each record is so of each list of the graph
all_lists : (P : List ℕ → Type 0) (behind : List Whole) → All (λ w. P w.known.list) behind → All P (lists_of behind)
all_lists P behind h =
    let lists : List (List ℕ) = map (λ (w : Whole). w.known.list) behind in
    All-permutation P lists (reverse lists) (IsPermutation-reverse lists) (All-map P (λ (w : Whole). w.known.list) behind h)

length-lists_of : (behind : List Whole) → length (lists_of behind) ≡ length behind
length-lists_of behind = length-reverse (map (λ (w : Whole). w.known.list) behind) ∙ length-map behind (λ (w : Whole). w.known.list)

arcs_of_lists : (behind : List Whole) → sum_by (λ (list : List ℕ). length list) (map (λ (w : Whole). w.known.list) behind) ≡ arcs_read behind
arcs_of_lists [] = refl
arcs_of_lists (w ∷ behind) =
    omega (
      arith,
      arcs_of_lists behind,
      sum_by-cons (λ (list : List ℕ). length list) w.known.list (map (λ (w : Whole). w.known.list) behind),
      sum_by-cons (λ (w : Whole). length w.known.list) w behind,
    )

sum_of_lists : (behind : List Whole) → sum_by (λ (list : List ℕ). length list) (lists_of behind) ≡ arcs_read behind
sum_of_lists behind =
    let lists : List (List ℕ) = map (λ (w : Whole). w.known.list) behind in
    sum_by-IsPermutation (λ (list : List ℕ). length list) lists (reverse lists) (IsPermutation-reverse lists) ∙ arcs_of_lists behind

pub graph_proper : GraphIsProper
graph_proper p bits a (ws, behind, at, pages, (all, tail, arcs, graph, places)) =
    let proper : All (IsProper p) behind = all_proper p bits [] 0 ws behind at (All-nil (IsProper p)) pages in
    record {
      counted = ap length graph ∙ length-lists_of behind ∙ all;
      ascending = subst (All (Ascends 0)) (sym graph) (all_lists (Ascends 0) behind (All-weaker (IsProper p) (λ w. Ascends 0 w.known.list) (λ w h. h.0) behind proper));
      below = subst (All (Below p.nodes)) (sym graph) (all_lists (Below p.nodes) behind (All-weaker (IsProper p) (λ w. Below p.nodes w.known.list) (λ w h. h.1) behind proper));
    }

pub arcs_promised : ArcsAreAsPromised
arcs_promised p bits a (ws, behind, at, pages, (all, tail, arcs, graph, places)) =
    ap (λ (lists : List (List ℕ)). sum_by (λ (list : List ℕ). length list) lists) graph ∙ sum_of_lists behind ∙ arcs

pub offsets_all : OffsetsAreAll
offsets_all p bits a (ws, behind, at, pages, (all, tail, arcs, graph, places)) =
    let ends : List ℕ = map (λ (w : Whole). w.end) behind in
    omega (arith, ap length places, length-reverse ends, length-map behind (λ (w : Whole). w.end), all)
