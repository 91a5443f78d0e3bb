-- The arcs of the records of a graph file, counted at their targets record by record.
use Rattle.std.proofs.Common.{◌≡◌, ◌∙◌, ℕ, ◌+◌, ◌<◌, cond, List, [], ◌∷◌, length, get_or, sym, ap, arith}
use Rattle.std.proofs.lemmas.List.{get_or_append_left, get_or_at}
use Rattle.wg_graph.specs.{Numbers.is_in, Digraph.Digraph, Digraph.successors, Arcs.has_arc}
use Rattle.wg_graph.proofs.Sets.{where_same}
use Rattle.wg_grammar.specs.{Record.Whole, Archive.lists_of}
use Rattle.wg_stream.proofs.PrefixLemmas.{length-lists, lists_more}
use Rattle.wg_transpose.specs.SoFar.{AreCounts, predecessors_below}
use Rattle.wg_transpose.proofs.Steps.{counted_more}

-- the lists of the records behind, as those of the first pages of a graph
abbrev pub graph_behind : ℕ → List Whole → Digraph
graph_behind n behind = record { nodes = n; lists = lists_of behind }

module _ (n : ℕ) (behind : List Whole) (w : Whole) (k : ℕ) (is : length behind ≡ k) where
  size : length (lists_of behind) ≡ k
  size = length-lists behind ∙ is

  -- a record more leaves the lists before it as they are
  same_list : (u : ℕ) → u < k → successors (graph_behind n behind) u ≡ successors (graph_behind n (w ∷ behind)) u
  same_list u lt = grind (arith, get_or_append_left, lists_more, size)

  last_list : w.known.list ≡ successors (graph_behind n (w ∷ behind)) k
  last_list = sym (ap (λ (l : List (List ℕ)). get_or l k []) (lists_more w behind) ∙ get_or_at (lists_of behind) w.known.list [] [] k size)

  pub record_counted : (list old new : List ℕ) → list ≡ w.known.list → length new ≡ length old
      → ((v : ℕ) → v < length old → get_or new v 0 ≡ get_or old v 0 + cond (is_in v list) 1 0)
      → AreCounts n (predecessors_below (graph_behind n behind) k) old → AreCounts n (predecessors_below (graph_behind n (w ∷ behind)) (k + 1)) new
  record_counted list old new list_is same each h =
      counted_more (graph_behind n (w ∷ behind)) k list old new (list_is ∙ last_list) same each (record {
        pages = h.pages;
        each = λ v lt.
            h.each v lt
            ∙ ap (λ (l : List ℕ). length l)
            (where_same (λ u. has_arc (graph_behind n behind) u v) (λ u. has_arc (graph_behind n (w ∷ behind)) u v) 0 k (λ u low high. ap (is_in v) (same_list u (omega arith))));
      })
