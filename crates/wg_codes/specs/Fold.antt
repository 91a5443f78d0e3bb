-- Whole numbers of either sign as numbers that are not negative.
use Rattle.std.specs.Prelude.{ℕ, ◌+◌, ◌-◌, ◌*◌, ◌/◌, ◌%◌, ℤ, pos, negsuc, nat_le, if◌then◌else◌, ◌==◌, Option, Some, None}

-- 2 * e if e is not negative, else - 2 * e - 1
abbrev pub folded : ℤ → ℕ
folded (pos n) = 2 * n
folded (negsuc n) = 2 * (n + 1) - 1

-- an even v is the fold of v / 2, an odd one of - ((v + 1) / 2)
abbrev pub unfolded : ℕ → ℤ
unfolded v = if v % 2 == 0 then pos (v / 2) else negsuc ((v + 1) / 2 - 1)

-- the number whose distance from x folds to v, unless it is below 0
abbrev pub unfolded_from : ℕ → ℕ → Option ℕ
unfolded_from x v =
    if v % 2 == 0 then Some (x + v / 2) else if nat_le (v / 2 + 1) x then Some (x - (v / 2 + 1)) else None

-- The number that a stored gap v means: if nothing comes before it, the one whose distance from x folds to v; else
-- its distance from what comes before, less 1, is v.
abbrev pub number_of_gap : ℕ → Option ℕ → ℕ → Option ℕ
number_of_gap x None v = unfolded_from x v
number_of_gap x (Some before) v = Some (before + 1 + v)
