-- The ASCIIGraph text of a graph: the number of pages, and a line for each page.
use Rattle.std.specs.Prelude.{ℕ, List, [], ◌∷◌, ◌++◌, map, codes, decimal}
use Rattle.wg_outside.specs.Puts.{joined}
use Rattle.wg_graph.specs.Digraph.{Digraph}

-- a space and a number
abbrev pub word_after : ℕ → List ℕ
word_after v = codes " " ++ decimal v

-- numbers, a space before each
abbrev pub words_after : List ℕ → List ℕ
words_after list = joined (map word_after list)

-- numbers, parted by one space
abbrev pub list_words : List ℕ → List ℕ
list_words [] = []
list_words (v ∷ list) = decimal v ++ words_after list

-- the line of a page with these successors
abbrev pub list_line : List ℕ → List ℕ
list_line list = list_words list ++ codes "\n"

-- the first line
abbrev pub nodes_line : ℕ → List ℕ
nodes_line n = decimal n ++ codes "\n"

abbrev pub text_of_graph : Digraph → List ℕ
text_of_graph g = nodes_line g.nodes ++ joined (map list_line g.lists)
