-- What holds of all unions and quotients.
use Rattle.std.specs.Prelude.{◌≡◌, ℕ, ◌||◌, List, length}
use Rattle.std.specs.List.{range_with_len}
use Rattle.wg_graph.specs.Ascending.{Ascends, Below}
use Rattle.wg_graph.specs.Numbers.{is_in}
use Rattle.wg_graph.specs.Digraph.{Digraph, IsGraph}
use Rattle.wg_transpose.specs.Transposed.{transposed}
use Rattle.wg_graph.specs.Unions.{union_of}
use Rattle.wg_shape.specs.Graphs.{IsUnion, union_graph}
use Rattle.wg_shape.specs.Quotient.{IsQuotient, quotient_of}

-- ---- lists

-- The union of two ascending lists ascends, and has the numbers of either.
abbrev pub ListsAreJoined : Type 0
ListsAreJoined = (xs ys : List ℕ) → Ascends 0 xs → Ascends 0 ys
    → Ascends 0 (union_of xs ys) × ((y : ℕ) → is_in y (union_of xs ys) ≡ (is_in y xs || is_in y ys))

-- ---- unions

-- Two graphs have a union.
abbrev pub ThereIsAUnion : Type 0
ThereIsAUnion = (g h : Digraph) → IsGraph g → IsGraph h → IsUnion g h (union_graph g h)

-- They have no other.
abbrev pub UnionsAreOne : Type 0
UnionsAreOne = (g h u w : Digraph) → IsUnion g h u → IsUnion g h w → u ≡ w

-- It does not matter which comes first.
abbrev pub UnionsCommute : Type 0
UnionsCommute = (g h : Digraph) → IsGraph g → IsGraph h → union_graph g h ≡ union_graph h g

-- The union of a graph with itself is the graph.
abbrev pub UnionWithItself : Type 0
UnionWithItself = (g : Digraph) → IsGraph g → union_graph g g ≡ g

-- ---- quotients

-- A graph whose pages have classes below n has a quotient of n classes.
abbrev pub ThereIsAQuotient : Type 0
ThereIsAQuotient = (g : Digraph) (classes : List ℕ) (n : ℕ) → IsGraph g → length classes ≡ g.nodes → Below n classes
    → IsQuotient g classes n (quotient_of g classes n)

-- It has no other.
abbrev pub QuotientsAreOne : Type 0
QuotientsAreOne = (g : Digraph) (classes : List ℕ) (n : ℕ) (q p : Digraph)
    → IsQuotient g classes n q → IsQuotient g classes n p → q ≡ p

-- The quotient by classes of one page each, in order, is the graph.
abbrev pub QuotientByPages : Type 0
QuotientByPages = (g : Digraph) → IsGraph g → quotient_of g (range_with_len 0 g.nodes) g.nodes ≡ g

-- The quotient of the transposed graph is the transposed quotient.
abbrev pub QuotientOfTransposed : Type 0
QuotientOfTransposed = (g : Digraph) (classes : List ℕ) (n : ℕ) → IsGraph g → length classes ≡ g.nodes → Below n classes
    → quotient_of (transposed g) classes n ≡ transposed (quotient_of g classes n)
