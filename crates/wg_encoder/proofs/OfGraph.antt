-- An encoder of a graph is one of its lists.
use Rattle.std.proofs.Common.{◌≡◌, ℕ, ◌+◌, ◌<◌, ◌≤◌, List, [], ◌∷◌, ◌++◌, length, take, drop, sym, ap, subst, ◌∙◌, arith}
use Rattle.std.specs.List.{sum_by}
use Rattle.std.proofs.lemmas.List.{append-nil, take_more, take-append-drop, drop_more, drop_all}
use Rattle.std.proofs.lemmas.List.Sums.{sum_by_more, sum_by-take-le}
use Rattle.wg_graph.specs.Digraph.{Digraph, IsGraph, successors, arc_count}
use Rattle.wg_outside.specs.Outside.{Files}
use Rattle.wg_encoder.specs.declared.error.EncodeError.{EncodeError}
use Rattle.wg_encoder.specs.Encoding.{Encoding}
use Rattle.wg_encoder.specs.Gone.{HasStopped}

abbrev pub front : Digraph → ℕ → List (List ℕ)
front g page = take page g.lists

-- one more
pub front_on : (g : Digraph) (page next : ℕ) (list : List ℕ) → IsGraph g → page < g.nodes → list ≡ successors g page → next ≡ page + 1 → front g page ++ list ∷ [] ≡ front g next
front_on g page next list is here same on =
    ap (λ l. front g page ++ l ∷ []) same ∙ sym (take_more g.lists page [] (omega (arith, is.counted, here))) ∙ ap (front g) (sym on)

-- with those that follow they are all
split : (g : Digraph) (page : ℕ) (list : List ℕ) → IsGraph g → page < g.nodes → list ≡ successors g page → front g page ++ list ∷ drop (page + 1) g.lists ≡ g.lists
split g page list is here same =
    ap (λ l. front g page ++ l ∷ drop (page + 1) g.lists) same ∙ ap (λ ls. front g page ++ ls) (sym (drop_more g.lists page [] (omega (arith, is.counted, here)))) ∙ take-append-drop page g.lists

pub stopped : (files : Files) (base : List ℕ) (e v : Encoding) (list : List ℕ) (why : EncodeError) → v ≡ e → IsGraph v.graph → v.page < v.graph.nodes → list ≡ successors v.graph v.page
    → HasStopped files base v.params (front v.graph v.page ++ list ∷ drop (v.page + 1) v.graph.lists) why → HasStopped files base e.params e.graph.lists why
stopped files base e v list why same is here list_is h =
    subst (λ (x : Encoding). HasStopped files base x.params x.graph.lists why) same (subst (λ ls. HasStopped files base v.params ls why) (split v.graph v.page list is here list_is) h)

-- how many arcs the lists have, with one more
pub arcs_fit : (g : Digraph) (page arcs most : ℕ) (list : List ℕ) → IsGraph g → page < g.nodes → list ≡ successors g page → most ≡ arc_count g → arcs ≡ sum_by (λ l. length l) (front g page) → arcs + length list ≤ most
arcs_fit g page arcs most list is here same all few =
    let size : List ℕ → ℕ = λ l. length l in
    let more : sum_by size (front g (page + 1)) ≡ sum_by size (front g page) + length (successors g page) = sum_by_more size g.lists page [] (omega (arith, is.counted, here)) in
    let within : sum_by size (front g (page + 1)) ≤ arc_count g = sum_by-take-le size g.lists (page + 1) in
    omega (arith, more, within, all, few, ap (λ (l : List ℕ). length l) same)

-- once all pages are written, their lists are those of the graph
pub whole_front : (g : Digraph) (page : ℕ) → IsGraph g → page ≡ g.nodes → front g page ≡ g.lists
whole_front g page is all =
    sym (append-nil (front g page)) ∙ ap (λ (ls : List (List ℕ)). front g page ++ ls) (sym (drop_all page g.lists (omega (arith, is.counted, all)))) ∙ take-append-drop page g.lists
