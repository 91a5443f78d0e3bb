-- Ascending lists of numbers, as the successors of a page are.
use Rattle.std.specs.Prelude.{ℕ, suc, ◌≤◌, ◌<◌, List, [], ◌∷◌}

-- each number is above the one before it, and the first is at least n
abbrev pub Ascends : ℕ → List ℕ → Type 0
Ascends n [] = Unit {0}
Ascends n (x ∷ xs) = (n ≤ x) × Ascends (suc x) xs

-- each number is below n
abbrev pub Below : ℕ → List ℕ → Type 0
Below n [] = Unit {0}
Below n (x ∷ xs) = (x < n) × Below n xs
