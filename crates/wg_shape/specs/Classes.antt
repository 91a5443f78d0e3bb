-- A graph whose pages are in classes, and the lists of its quotient, range after range of classes.
use Rattle.std.specs.Prelude.{◌≡◌, ℕ, ◌≤◌, ◌==◌, List, length}
use Rattle.wg_params.specs.declared.limits.TheConstants.{MOST_ARCS, MOST_PAGES}
use Rattle.wg_graph.specs.Ascending.{Below}
use Rattle.wg_graph.specs.Digraph.{Digraph, IsGraph, arc_count}
use Rattle.wg_graph.specs.Numbers.{numbers_where}
use Rattle.wg_transpose.specs.Transposing.{Ranging, IsRangeOf, numbers_between}
use Rattle.wg_shape.specs.Quotient.{class_of, members, reached, quotient_of}

-- the graph, the class of each page, and how many classes there are
pub record Classes : Type 0 where
  pub graph : Digraph
  pub classes : List ℕ
  pub count : ℕ

abbrev pub classes_in : Digraph → List ℕ → ℕ → Classes
classes_in g classes n = record { graph = g; classes = classes; count = n }

-- each page has one class, and pages, classes and arcs are within the limits of an archive
pub record AreClasses (p : Classes) : Type 0 where
  pub proper : IsGraph p.graph
  pub each : length p.classes ≡ p.graph.nodes
  pub below : Below p.count p.classes
  pub few : p.count ≤ MOST_PAGES
  pub few_pages : p.graph.nodes ≤ MOST_PAGES
  pub few_arcs : arc_count p.graph ≤ MOST_ARCS

abbrev pub whole : Classes → Digraph
whole p = quotient_of p.graph p.classes p.count

-- the classes that the arcs of class i lead to, in the order of the arcs
abbrev pub reached_by : Digraph → List ℕ → ℕ → List ℕ
reached_by g classes i = reached g classes (members classes i)

-- those that the arcs of its pages below page k lead to
abbrev pub reached_below : Digraph → List ℕ → ℕ → ℕ → List ℕ
reached_below g classes k i = reached g classes (numbers_where (λ u. i == class_of classes u) 0 k)

-- the classes, and the range of those whose lists are at hand: from the first class up to the one before `to`
pub record Quotienting : Type 0 where
  pub pages : Classes
  pub from : ℕ
  pub to : ℕ

-- how many arcs leave the classes from this one on, up to that one
abbrev pub arcs_from : Classes → ℕ → ℕ → ℕ
arcs_from p from to = numbers_between (reached_by p.graph p.classes) from to

-- what the arcs of the classes of the range lead to stands there, list after list
pub record HoldsClasses (p : Classes) (r : Ranging) : Type 0 where
  pub classes : AreClasses p
  pub held : IsRangeOf (reached_by p.graph p.classes) r
