-- The digits of a number, three at a time.
use Rattle.std.specs.Prelude.{ℕ, ◌+◌, ◌/◌, ◌%◌, List, [], ◌∷◌}

-- the three digits of a number below 1000
abbrev pub triple_digits : ℕ → List ℕ
triple_digits t = (48 + t / 100) ∷ (48 + t / 10 % 10) ∷ (48 + t % 10) ∷ []
