-- The first pages of a ranking, and what is true of the fields of all that hold them.
use Rattle.std.specs.Prelude.{ℕ, ◌≡◌, ◌*◌, ◌<◌, ◌≤◌, true, List, ◌++◌, length, slice_index, take, drop, nat_lt}
use Rattle.std.specs.List.{count_by, range_with_len}
use Rattle.std.specs.List.Sorted.{IsPermutation}
use Rattle.wg_params.specs.declared.limits.TheConstants.{MOST_PAGES}
use Rattle.wg_rank.specs.Intervals.{by_page}
use Rattle.wg_rank.specs.declared.limits.TheConstants.{UNITS}
use Rattle.wg_order.specs.Order.{ComesBefore, Positions}
use Rattle.wg_order.specs.declared.first_pages.FirstPages.TheInside.{Inside}

-- all pages: first so many of the ranking, in their order, and then the others in any
pub record IsFront (low high pages : List ℕ) (count : ℕ) : Type 0 where
  pub all : IsPermutation (range_with_len 0 (length low)) pages
  pub ordered : (i j : ℕ) → i < count → i < j → j < length pages
      → ComesBefore low high (slice_index pages i) (slice_index pages j)

-- how many pages are surely below page v
abbrev pub count_lower : List ℕ → List ℕ → ℕ → ℕ
count_lower low high v = count_by (λ h. nat_lt h (by_page low v)) high

-- these are the first pages of the ranking, in their order
abbrev pub AreFirst : List ℕ → List ℕ → List ℕ → Type 0
AreFirst low high first = (others : List ℕ) × IsFront low high (first ++ others) (length first)

-- so many numbers of the second half of the room
abbrev pub first_in : ℕ → ℕ → List ℕ → List ℕ
first_in count n room = take count (drop n room)

-- the bounds of each page, and the first pages in their order
abbrev pub positions_of : Inside → Positions
positions_of r = record {
  filled = true;
  low = r.low.items;
  high = r.high.items;
  pages = first_in r.count (length r.low.items) r.room.items;
}

-- the room has in its second half the first pages, and in the first one how many pages are surely below each of these
pub record AreKept (low high room : List ℕ) (count : ℕ) : Type 0 where
  pub few : length low ≤ MOST_PAGES
  pub high_pages : length high ≡ length low
  pub room_pages : length room ≡ 2 * length low
  pub counted : count ≤ length low
  pub front : AreFirst low high (first_in count (length low) room)
  pub lower : (i : ℕ) → i < count
      → slice_index room i ≡ count_lower low high (slice_index (first_in count (length low) room) i)
  pub within : (v : ℕ) → v < length low → (by_page low v ≤ UNITS) × (by_page high v ≤ UNITS)

abbrev pub IsKept : Inside → Type 0
IsKept r = AreKept r.low.items r.high.items r.room.items r.count
