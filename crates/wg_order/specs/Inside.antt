-- What is true of the fields of all rankings.
use Rattle.std.specs.Prelude.{ℕ, ◌≡◌, ◌*◌, ◌<◌, ◌≤◌, Bool, true, List, length, slice_index, take, drop}
use Rattle.std.specs.List.Sorted.{IsPermutation, IsNonDecreasing}
use Rattle.wg_params.specs.declared.limits.TheConstants.{MOST_PAGES}
use Rattle.wg_order.specs.Order.{Positions, IsRanking}
use Rattle.wg_order.specs.declared.ranking.Ranking.TheInside.{Inside}

abbrev pub positions_of : Inside → Positions
positions_of r = record
    { filled = r.filled; low = r.low.items; high = r.high.items; pages = take (length r.low.items) r.sorted.items }

-- the upper bounds of all pages, rising
pub record IsRising (high rising : List ℕ) : Type 0 where
  pub all : IsPermutation high rising
  pub rises : IsNonDecreasing rising

-- the lower bounds of all pages, falling
pub record IsFalling (low falling : List ℕ) : Type 0 where
  pub all : IsPermutation low falling
  pub falls : (i j : ℕ) → i ≤ j → j < length falling → slice_index falling j ≤ slice_index falling i

-- sorted has all pages as they are ranked, and then all upper bounds rising
pub record AreKept (filled : Bool) (low high sorted : List ℕ) : Type 0 where
  pub few : length low ≤ MOST_PAGES
  pub high_pages : length high ≡ length low
  pub sorted_pages : length sorted ≡ 2 * length low
  pub ranked : filled ≡ true → IsRanking low high (take (length low) sorted)
  pub risen : filled ≡ true → IsRising high (drop (length low) sorted)

abbrev pub IsKept : Inside → Type 0
IsKept r = AreKept r.filled r.low.items r.high.items r.sorted.items
