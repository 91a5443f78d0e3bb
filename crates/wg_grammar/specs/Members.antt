-- The list of a record.
use Rattle.std.specs.Prelude.{ℕ, ◌+◌, Bool, false, ◌&&◌, ◌||◌, nat_lt, nat_le, List, [], ◌∷◌}
use Rattle.wg_graph.specs.Numbers.{is_in, numbers_where}
use Rattle.wg_params.specs.Parameters.{Parameters}
use Rattle.wg_grammar.specs.Context.{Context}
use Rattle.wg_grammar.specs.SoFar.{SoFar, copied}

-- whether the number lies inside one of the intervals of these left ends and lengths
abbrev pub is_covered : List ℕ → List ℕ → ℕ → Bool
is_covered (l ∷ ls) (n ∷ ns) y = nat_le l y && nat_lt y (l + n) || is_covered ls ns y
is_covered (l ∷ ls) [] y = false
is_covered [] ns y = false

-- copied, inside an interval, or a residual
abbrev pub is_member : Context → SoFar → ℕ → Bool
is_member c s y = is_in y (copied c s) || is_covered s.lefts s.lengths y || is_in y s.residuals

-- the pages that are members, ascending
unfoldable pub list_of : Parameters → Context → SoFar → List ℕ
list_of p c s = numbers_where (is_member c s) 0 p.nodes
