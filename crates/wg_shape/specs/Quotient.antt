-- The graph of classes of pages. The class of page u is the number at u in a list.
use Rattle.std.specs.Prelude.{◌≡◌, ◌↔◌, ℕ, Bool, IsTrue, ◌==◌, List, [], ◌∷◌, ◌++◌, length, get_or, map}
use Rattle.std.specs.List.{range_with_len}
use Rattle.wg_graph.specs.Numbers.{is_in, numbers_where}
use Rattle.wg_graph.specs.Digraph.{Digraph, IsGraph, successors}
use Rattle.wg_graph.specs.Arcs.{has_arc}

abbrev pub class_of : List ℕ → ℕ → ℕ
class_of classes u = get_or classes u 0

-- some page of class i has an arc to some page of class j
pub record Leads (g : Digraph) (classes : List ℕ) (i j : ℕ) : Type 0 where
  pub from : ℕ
  pub to : ℕ
  pub arc : IsTrue (has_arc g from to)
  pub leaves : class_of classes from ≡ i
  pub arrives : class_of classes to ≡ j

-- the graph q has n classes as its pages, and an arc exactly if one leads from class to class
pub record IsQuotient (g : Digraph) (classes : List ℕ) (n : ℕ) (q : Digraph) : Type 0 where
  pub nodes : q.nodes ≡ n
  pub proper : IsGraph q
  pub arcs : (i j : ℕ) → IsTrue (has_arc q i j) ↔ Leads g classes i j

-- the pages of class i, ascending
abbrev pub members : List ℕ → ℕ → List ℕ
members classes i = numbers_where (λ u. i == class_of classes u) 0 (length classes)

-- the classes that the arcs of these pages lead to, in the order of the arcs
abbrev pub reached : Digraph → List ℕ → List ℕ → List ℕ
reached g classes [] = []
reached g classes (u ∷ us) = map (class_of classes) (successors g u) ++ reached g classes us

-- whether an arc leads from class i to class j
abbrev pub leads : Digraph → List ℕ → ℕ → ℕ → Bool
leads g classes i j = is_in j (reached g classes (members classes i))

-- the one graph of n classes
abbrev pub quotient_of : Digraph → List ℕ → ℕ → Digraph
quotient_of g classes n = record {
  nodes = n;
  lists = map (λ i. numbers_where (leads g classes i) 0 n) (range_with_len 0 n);
}
