-- Sets of numbers, as ascending lists.
use Rattle.std.specs.Prelude.{ℕ, zero, suc, ◌+◌, Bool, false, ◌||◌, ◌==◌, if◌then◌else◌, List, [], ◌∷◌}

-- whether the number stands in the list
abbrev pub is_in : ℕ → List ℕ → Bool
is_in y [] = false
is_in y (x ∷ xs) = y == x || is_in y xs

-- whether the number stands in one of the lists
abbrev pub is_in_either : List ℕ → List ℕ → ℕ → Bool
is_in_either xs ys y = is_in y xs || is_in y ys

-- of the k numbers from n on, those that pass the test, ascending
abbrev pub numbers_where : (ℕ → Bool) → ℕ → ℕ → List ℕ
numbers_where test n zero = []
numbers_where test n (suc k) = if test n then n ∷ numbers_where test (n + 1) k else numbers_where test (n + 1) k

-- whether it is the first number of the list
abbrev pub begins_with : ℕ → List ℕ → Bool
begins_with y [] = false
begins_with y (x ∷ xs) = x == y
