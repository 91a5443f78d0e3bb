-- What is made when runs and arcs were counted: the counts, and what stands for the pages that link to each page.
use Rattle.std.proofs.Common.{◌≡◌, ℕ, ◌<◌, ◌≤◌, List, [], ◌∷◌, length, map, get_or, slice_range, refl, sym, ap, subst, ◌∙◌, arith}
use Rattle.std.specs.List.{range_with_len}
use Rattle.std.proofs.lemmas.List.FromFn.{fill_by_all, length-map-range_with_len, get_or-map-range_with_len}
use Rattle.wg_graph.specs.Ascending.{Ascends}
use Rattle.wg_graph.specs.Digraph.{Digraph}
use Rattle.wg_graph.specs.Arcs.{has_arc}
use Rattle.wg_graph.proofs.Sets.{ascends-where}
use Rattle.wg_transpose.specs.Transposed.{predecessors, transposed}
use Rattle.wg_transpose.specs.SoFar.{start, AreFilled}
use Rattle.wg_transpose.specs.Runs.{Counted, IsCountOf, AreDegrees, runs_in}
use Rattle.wg_transpose.specs.Held.{AreReady, HoldsArcs, graph_of, list_at}
use Rattle.wg_transpose.proofs.Reversed.{gives_back}
use Rattle.wg_transpose.proofs.Totals.{start_of_all}
use Rattle.wg_transpose.proofs.Whole.{begins_at, ends_within, list_is}
use Rattle.wg_transpose.proofs.RunWhole.{few_in_all}

-- they are those of runs, and of pages one by one
module _ (g : Digraph) (c : Counted) (reach : List ℕ) (h : IsCountOf g c) (places : length reach ≡ length c.counts) where
  pub ready_runs : AreReady runs_in g c.counts reach c.runs
  ready_runs = record {
    proper = h.proper;
    few_pages = h.few_pages;
    few_arcs = h.few_arcs;
    counted = h.counted;
    places = places ∙ h.counted.pages;
    room = h.runs;
    few = omega (arith, h.runs, few_in_all g h.proper, h.few_arcs);
  }

  pub ready_links : AreReady (λ pages. pages) g c.links reach c.arcs
  ready_links = record {
    proper = h.proper;
    few_pages = h.few_pages;
    few_arcs = h.few_arcs;
    counted = h.linked;
    places = places ∙ h.counted.pages;
    room = h.arcs ∙ sym (start_of_all g h.proper);
    few = omega (arith, h.arcs, h.few_arcs);
  }

-- ---- where a list stands

module _ {X : Type 0} {items : List ℕ → List X} {none : X} {d g : Digraph} {ends : List ℕ} {all : List X} {degrees : List ℕ} (h : HoldsArcs items none d ends all degrees) (is : d ≡ g) (v : ℕ) (lt : v < g.nodes) where
  abbrev whole : ℕ → List X
  whole u = items (predecessors g u)

  filled : AreFilled none g.nodes whole whole ends all
  filled = subst (λ (e : Digraph). AreFilled none e.nodes (λ u. items (predecessors e u)) (λ u. items (predecessors e u)) ends all) is h.lists

  pub end_there : v < length ends
  end_there = omega (arith, filled.pages)

  module _ {seen : List ℕ} (same : seen ≡ ends) {begin end : ℕ} (first : begin ≡ get_or (0 ∷ seen) v 0) (last : end ≡ get_or seen v 0) where
    from : begin ≡ start whole v
    from = first ∙ ap (λ (l : List ℕ). get_or (0 ∷ l) v 0) same ∙ begins_at g.nodes whole ends all filled v lt

    to : end ≡ get_or ends v 0
    to = last ∙ ap (λ (l : List ℕ). get_or l v 0) same

    pub in_order : (begin ≤ end) × (end ≤ length all)
    in_order = (omega (arith, from, to, filled.reached v lt), omega (arith, to, ends_within g.nodes whole ends all filled v lt))

    pub list_there : slice_range all begin end ≡ items (predecessors g v)
    list_there = rw (from, to) (list_is g.nodes whole ends all filled v lt)

pub preds_ascend : (g : Digraph) (v : ℕ) → Ascends 0 (predecessors g v)
preds_ascend g v = ascends-where (λ u. has_arc g u v) 0 g.nodes

-- ---- the graph that it is seen as

module _ {X : Type 0} (items : List ℕ → List X) (pages : List X → List ℕ) (none : X) (back : (xs : List ℕ) → Ascends 0 xs → pages (items xs) ≡ xs) (g : Digraph) (ends : List ℕ) (all : List X) (degrees : List ℕ) (h : HoldsArcs items none g ends all degrees) where
  pub seen_as : graph_of pages ends all ≡ g
  unfolding graph_of
  seen_as =
      let each_of : ℕ → List ℕ = λ v. pages (list_at ends all v) in
      let lists : List (List ℕ) = map each_of (range_with_len 0 (length ends)) in
      let size : length lists ≡ g.nodes = length-map-range_with_len each_of 0 (length ends) ∙ h.lists.pages in
      let each : (v : ℕ) → v < g.nodes → get_or lists v [] ≡ predecessors g v = λ v lt.
      get_or-map-range_with_len each_of 0 (length ends) v v [] (omega (arith, h.lists.pages)) (omega arith)
      ∙ ap pages (list_there h refl v lt refl refl refl) ∙ back (predecessors g v) (preds_ascend g v) in
      let are : lists ≡ map (predecessors g) (range_with_len 0 g.nodes) = fill_by_all (predecessors g) lists g.nodes [] size each in
      let inner : record { nodes = length ends; lists = lists } ≡ transposed g = λ i. record { nodes = h.lists.pages i; lists = are i } in
      ap transposed inner ∙ gives_back g h.proper

  pub held_as_seen : HoldsArcs items none (graph_of pages ends all) ends all degrees
  held_as_seen = subst (λ (d : Digraph). HoldsArcs items none d ends all degrees) (sym seen_as) h

-- what was filled in, in the arrays that hold it
pub arcs_held : {X : Type 0} (items : List ℕ → List X) (none : X) (g : Digraph) (counts reach degrees : List ℕ) (size : ℕ) (ends ends' : List ℕ) (all all' : List X)
    → AreReady items g counts reach size → AreDegrees g degrees → ends' ≡ ends → all' ≡ all
    → AreFilled none g.nodes (λ v. items (predecessors g v)) (λ v. items (predecessors g v)) ends all
    → HoldsArcs items none g ends' all' degrees
arcs_held items none g counts reach degrees size ends ends' all all' h d e a filled = rw (e, a) record {
  proper = h.proper;
  few_pages = h.few_pages;
  few_arcs = h.few_arcs;
  lists = filled;
  outdegrees = d;
}
