-- How a record stores its intervals. By BVGraph's documentation an interval is stored as its left end and its length,
-- each a word of gamma: the first left end by its distance from the page, a later one by its distance, less 1, from
-- past, which is one past the last number of the interval before; and a length less the least length.
use Rattle.std.specs.Prelude.{◌≡◌, ℕ, zero, suc, ◌+◌, ◌^◌, ◌≤◌, Bool, List, [], ◌∷◌, ◌++◌, length, Option, Some, unwrap_or}
use Rattle.std.specs.List.{range_with_len}
use Rattle.wg_params.specs.declared.code.Code.TheVariants.{Gamma}
use Rattle.wg_codes.specs.Standing.{IsWord, value_at, behind_value}
use Rattle.wg_codes.specs.Fold.{number_of_gap}

-- An interval with this left end and length stands at the bits, with others behind it. Its left end and its numbers
-- are within 2 ^ 62.
pub record IsInterval (page least : ℕ) (past : Option ℕ) (left len : ℕ) (bits behind : List Bool) : Type 0 where
  pub v : ℕ
  pub w : ℕ
  pub between : List Bool
  pub left_word : IsWord Gamma v bits between
  pub length_word : IsWord Gamma w between behind
  pub left_is : number_of_gap page past v ≡ Some left
  pub length_is : len ≡ w + least
  pub left_low : left ≤ 2 ^ 62
  pub low : left + len ≤ 2 ^ 62 + 1

-- intervals with these left ends and lengths stand at the bits, one after the other
abbrev pub StandAt : ℕ → ℕ → Option ℕ → List ℕ → List ℕ → List Bool → Type 0
StandAt page least past [] [] bits = Unit {0}
StandAt page least past [] (n ∷ ns) bits = ⊥
StandAt page least past (l ∷ ls) [] bits = ⊥
StandAt page least past (l ∷ ls) (n ∷ ns) bits =
    (behind : List Bool) × IsInterval page least past l n bits behind × StandAt page least (Some (l + n)) ls ns behind

-- so many intervals stand at the bits
abbrev pub IntervalsStandAt : ℕ → ℕ → Option ℕ → ℕ → List Bool → Type 0
IntervalsStandAt page least past count bits =
    (lefts : List ℕ) × (lengths : List ℕ) × (length lefts ≡ count) × StandAt page least past lefts lengths bits

-- the numbers inside the intervals, one interval after the other
abbrev pub numbers_inside : List ℕ → List ℕ → List ℕ
numbers_inside [] ns = []
numbers_inside (l ∷ ls) [] = []
numbers_inside (l ∷ ls) (n ∷ ns) = range_with_len l n ++ numbers_inside ls ns

-- the numbers inside the n intervals that stand at the bits, as a function of the bits
unfoldable pub numbers_at : ℕ → ℕ → Option ℕ → ℕ → List Bool → List ℕ
numbers_at page least past zero bits = []
numbers_at page least past (suc n) bits =
    let behind_left : List Bool = behind_value Gamma bits in
    let left : ℕ = unwrap_or (number_of_gap page past (value_at Gamma bits)) 0 in
    let len : ℕ = value_at Gamma behind_left + least in
    range_with_len left len ++ numbers_at page least (Some (left + len)) n (behind_value Gamma behind_left)
