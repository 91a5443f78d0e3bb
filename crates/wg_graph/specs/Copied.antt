-- Which members of a referenced list are copied. By the WebGraph paper, copy blocks cut the list into alternate runs:
-- copied, skipped, copied and so on, and what lies past the last block is one more run of the other kind.
use Rattle.std.specs.Prelude.{ℕ, ◌+◌, ◌%◌, Bool, ◌==◌, nat_le, if◌then◌else◌, List, [], ◌∷◌, count_by}

-- The block that is stored as v, if so many come before it: the first is stored as it is, later ones less 1.
abbrev pub block_at : ℕ → ℕ → ℕ
block_at before v = if before == 0 then v else v + 1

-- where each block ends, when n positions come before the first
abbrev pub ends_of : ℕ → List ℕ → List ℕ
ends_of n [] = []
ends_of n (b ∷ bs) = (n + b) ∷ ends_of (n + b) bs

-- a position is copied if the number of blocks that end at it or before it is even
abbrev pub is_copied : List ℕ → ℕ → Bool
is_copied blocks p = count_by (λ e. nat_le e p) (ends_of 0 blocks) % 2 == 0

-- the members whose position passes the test, if the first has the position p
abbrev pub at_positions : (ℕ → Bool) → ℕ → List ℕ → List ℕ
at_positions test p [] = []
at_positions test p (y ∷ ys) = if test p then y ∷ at_positions test (p + 1) ys else at_positions test (p + 1) ys

-- the members of the list that the blocks copy
unfoldable pub copied_members : List ℕ → List ℕ → List ℕ
copied_members blocks list = at_positions (is_copied blocks) 0 list
