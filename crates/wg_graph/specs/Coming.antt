-- Lists whose numbers are given one by one.
use Rattle.std.specs.Prelude.{◌≡◌, ℕ, List, [], ◌∷◌, Option, Some, None}

-- The first of those to come is given, and the others are still to come; none is given only if none is to come.
abbrev pub Gives : List ℕ → Option ℕ → List ℕ → Type 0
Gives old None new = (old ≡ []) × (new ≡ [])
Gives old (Some x) new = old ≡ x ∷ new

-- the next number, which has been taken already, and those after it
abbrev pub front : Option ℕ → List ℕ → List ℕ
front None xs = []
front (Some x) xs = x ∷ xs
