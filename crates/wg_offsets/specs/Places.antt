-- The places of records in a graph file.
use Rattle.std.specs.Prelude.{◌≡◌, ◌≢◌, ℕ, ◌+◌, ◌-◌, ◌<◌, ◌≤◌, not, ◌==◌, List, length, get_or, All}
use Rattle.std.specs.List.Sorted.{IsNonDecreasing}
use Rattle.wg_graph.specs.Numbers.{numbers_where}
use Rattle.wg_offsets.specs.declared.places.TheConstants.{MOST_PLACE}

-- the first offset is 0, no offset is below the one before it, and none is past the last bit of a file
pub record ArePlaces (places : List ℕ) : Type 0 where
  pub first : get_or places 0 0 ≡ 0
  pub never_fall : IsNonDecreasing places
  pub within : All (λ p. p ≤ MOST_PLACE) places

-- the last of the places, or 0 if there is none
abbrev pub last_place : List ℕ → ℕ
last_place places = get_or places (length places - 1) 0

-- how many bits the record x has
abbrev pub record_length : List ℕ → ℕ → ℕ
record_length places x = get_or places (x + 1) 0 - get_or places x 0

-- each record has one length in both
abbrev pub AgreeInLengths : List ℕ → List ℕ → Type 0
AgreeInLengths here there = (x : ℕ) → x + 1 < length here → record_length here x ≡ record_length there x

-- the first page whose record has two lengths, and these lengths
pub record IsFirstMismatch (here there : List ℕ) (page length_here length_there : ℕ) : Type 0 where
  pub is_page : page + 1 < length here
  pub same_before : (x : ℕ) → x < page → record_length here x ≡ record_length there x
  pub here_is : length_here ≡ record_length here page
  pub there_is : length_there ≡ record_length there page
  pub differ : length_here ≢ length_there

-- the pages whose records have two lengths, ascending
abbrev pub pages_that_differ : List ℕ → List ℕ → List ℕ
pages_that_differ here there =
    numbers_where (λ x. not (record_length here x == record_length there x)) 0 (length here - 1)
