-- How far the lengths of records are compared, as two files tell them.
use Rattle.std.specs.Prelude.{◌≡◌, ℕ, ◌+◌, List, length, Option, MatchOption}
use Rattle.wg_offsets.specs.Places.{last_place, AgreeInLengths, IsFirstMismatch}

-- how many records were compared; the offset after them here and there; and the first of them whose lengths differ,
-- with its length here and its length there
pub record Compared : Type 0 where
  pub page : ℕ
  pub here : ℕ
  pub there : ℕ
  pub mismatch : Option (ℕ × ℕ × ℕ)

-- these lengths agree, or this is the first page of which they do not
abbrev pub Judges : Option (ℕ × ℕ × ℕ) → List ℕ → List ℕ → Type 0
Judges m here there = MatchOption m (AgreeInLengths here there) (λ x. IsFirstMismatch here there x.0 x.1 x.2)

-- the records with these offsets here and there were compared
pub record AreCompared (c : Compared) (here there : List ℕ) : Type 0 where
  pub many_here : length here ≡ c.page + 1
  pub many_there : length there ≡ c.page + 1
  pub end_here : last_place here ≡ c.here
  pub end_there : last_place there ≡ c.there
  pub mismatch : Judges c.mismatch here there
