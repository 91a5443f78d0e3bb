-- The order of pages by their bounds, and the positions that bounds leave to a page.
use Rattle.std.specs.Prelude.{ℕ, ◌≡◌, ◌+◌, ◌-◌, ◌<◌, ◌⊎◌, Bool, List, length, slice_index, nat_lt, count_by}
use Rattle.std.specs.List.{range_with_len}
use Rattle.std.specs.List.Sorted.{IsPermutation}
use Rattle.wg_rank.specs.Intervals.{by_page}

-- whether it was filled, the bounds of each page, and the pages in their order
pub record Positions : Type 0 where
  pub filled : Bool
  pub low : List ℕ
  pub high : List ℕ
  pub pages : List ℕ

-- one more than the number of pages that are surely above v
abbrev pub best : Positions → ℕ → ℕ
best s v = 1 + count_by (λ l. nat_lt (by_page s.high v) l) s.low

-- the number of pages less those that are surely below v
abbrev pub worst : Positions → ℕ → ℕ
worst s v = length s.low - count_by (λ h. nat_lt h (by_page s.low v)) s.high

-- page u comes before page v: by lower bounds falling, then by upper bounds falling, then by numbers rising
abbrev pub ComesBefore : List ℕ → List ℕ → ℕ → ℕ → Type 0
ComesBefore low high u v =
    (by_page low v < by_page low u)
    ⊎ ((by_page low u ≡ by_page low v) × (by_page high v < by_page high u))
    ⊎ ((by_page low u ≡ by_page low v) × (by_page high u ≡ by_page high v) × (u < v))

-- all pages, in this order
pub record IsRanking (low high pages : List ℕ) : Type 0 where
  pub all : IsPermutation (range_with_len 0 (length low)) pages
  pub ordered : (i j : ℕ) → i < j → j < length pages → ComesBefore low high (slice_index pages i) (slice_index pages j)
