-- The text of a graph: a line for each arc, ascending.
use Rattle.std.specs.Prelude.{ℕ, ◌+◌, List, [], ◌∷◌, ◌++◌, map}
use Rattle.wg_lines.specs.Printing.{pair_line}
use Rattle.wg_outside.specs.Puts.{joined}
use Rattle.wg_graph.specs.Digraph.{Digraph}

-- the line of an arc: its two pages
abbrev pub arc_line : ℕ × ℕ → List ℕ
arc_line arc = pair_line arc

abbrev pub text_of_arcs : List (ℕ × ℕ) → List ℕ
text_of_arcs arcs = joined (map arc_line arcs)

-- the lines of a page: one for each of its successors
abbrev pub page_lines : ℕ → List ℕ → List ℕ
page_lines page list = joined (map (λ v. arc_line (page, v)) list)

-- the lines of the pages from one on, which have these lists
abbrev pub lines_from : ℕ → List (List ℕ) → List ℕ
lines_from page [] = []
lines_from page (list ∷ lists) = page_lines page list ++ lines_from (page + 1) lists

abbrev pub text_of_graph : Digraph → List ℕ
text_of_graph g = lines_from 0 g.lists
