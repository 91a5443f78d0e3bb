-- Lists with a common member.
use Rattle.std.specs.Prelude.{ℕ, Bool, false, ◌||◌, List, [], ◌∷◌}
use Rattle.wg_graph.specs.Numbers.{is_in}

-- whether some number stands in both
abbrev pub shares : List ℕ → List ℕ → Bool
shares [] referenced = false
shares (y ∷ ys) referenced = is_in y referenced || shares ys referenced
