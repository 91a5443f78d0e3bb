-- The lists of a graph, taken one after the other.
use Rattle.std.proofs.Common.{◌≡◌, ◌∙◌, ℕ, ◌+◌, ◌<◌, ◌≤◌, List, [], ◌∷◌, ◌++◌, length, take, sym, ap, arith}
use Rattle.std.specs.List.{sum_by}
use Rattle.std.proofs.lemmas.List.{take_all, take_more}
use Rattle.std.proofs.lemmas.List.Sums.{sum_by_more_le}
use Rattle.wg_graph.specs.Digraph.{Digraph, IsGraph, successors, arc_count}

module _ (g : Digraph) (ok : IsGraph g) where
  pub all_lists : (page : ℕ) → g.nodes ≤ page → take page g.lists ≡ g.lists
  all_lists page le = take_all page g.lists (omega (arith, ok.counted))

  module _ (page : ℕ) (lt : page < g.nodes) (list : List ℕ) (is : list ≡ successors g page) where
    pub one_list_more : take page g.lists ++ list ∷ [] ≡ take (page + 1) g.lists
    one_list_more = ap (λ (l : List ℕ). take page g.lists ++ l ∷ []) is ∙ sym (take_more g.lists page [] (omega (arith, ok.counted)))

    pub list_fits : sum_by (λ l. length l) (take page g.lists) + length list ≤ arc_count g
    list_fits = omega (arith, sum_by_more_le (λ (l : List ℕ). length l) g.lists page [] (omega (arith, ok.counted)), ap length is)
