-- A graph: pages 0 to nodes - 1, and for each page the list of its successors.
use Rattle.std.specs.Prelude.{◌≡◌, ℕ, ◌≤◌, List, [], length, get_or, All}
use Rattle.std.specs.List.{sum_by}
use Rattle.wg_params.specs.declared.limits.TheConstants.{MOST_ARCS, MOST_PAGES}
use Rattle.wg_graph.specs.Ascending.{Ascends, Below}

pub record Digraph : Type 0 where
  pub nodes : ℕ
  pub lists : List (List ℕ)

-- the successors of page x
abbrev pub successors : Digraph → ℕ → List ℕ
successors g x = get_or g.lists x []

-- how many arcs leave page x
abbrev pub outdegree : Digraph → ℕ → ℕ
outdegree g x = length (successors g x)

-- how many arcs there are
abbrev pub arc_count : Digraph → ℕ
arc_count g = sum_by (λ s. length s) g.lists

-- each page has one list, which ascends and has pages alone
pub record IsGraph (g : Digraph) : Type 0 where
  pub counted : length g.lists ≡ g.nodes
  pub ascending : All (Ascends 0) g.lists
  pub below : All (Below g.nodes) g.lists

-- a prefix of a graph: the lists of its first pages, within the limits of an archive
pub record IsGraphPrefix (g : Digraph) : Type 0 where
  pub begun : length g.lists ≤ g.nodes
  pub ascending : All (Ascends 0) g.lists
  pub below : All (Below g.nodes) g.lists
  pub few_pages : g.nodes ≤ MOST_PAGES
  pub few_arcs : arc_count g ≤ MOST_ARCS
