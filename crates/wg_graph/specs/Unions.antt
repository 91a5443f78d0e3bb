-- Unions of ascending lists, number by number.
use Rattle.std.specs.Prelude.{ℕ, nat_lt, ◌==◌, if◌then◌else◌, List, [], ◌∷◌}

abbrev pub with_number : ℕ → List ℕ → List ℕ
with_number x [] = x ∷ []
with_number x (y ∷ ys) = if nat_lt x y then x ∷ y ∷ ys else if x == y then y ∷ ys else y ∷ with_number x ys

-- the numbers of both, each once; ascending, if the second list ascends
abbrev pub union_of : List ℕ → List ℕ → List ℕ
union_of [] ys = ys
union_of (x ∷ xs) ys = with_number x (union_of xs ys)
