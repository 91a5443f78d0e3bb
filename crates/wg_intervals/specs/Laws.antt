-- What holds of the intervals and residuals of all ascending lists.
use Rattle.std.specs.Prelude.{◌≡◌, ℕ, ◌+◌, ◌<◌, ◌≤◌, true, List, length, All}
use Rattle.std.specs.List.{flat_map}
use Rattle.wg_graph.specs.Ascending.{Ascends}
use Rattle.wg_graph.specs.Numbers.{is_in, is_in_either}
use Rattle.wg_intervals.specs.Canonical.{numbers_of, intervals_of, residuals_of}

-- the numbers inside the intervals
abbrev pub inside : ℕ → List ℕ → List ℕ
inside least xs = flat_map numbers_of (intervals_of least xs)

-- The numbers inside the intervals and the residuals are together the numbers of the list,
abbrev pub AreTogether : Type 0
AreTogether = (least : ℕ) (xs : List ℕ) → Ascends 0 xs → (y : ℕ)
    → is_in_either (inside least xs) (residuals_of least xs) y ≡ is_in y xs

-- each once.
abbrev pub AreOnce : Type 0
AreOnce = (least : ℕ) (xs : List ℕ) → Ascends 0 xs
    → length (inside least xs) + length (residuals_of least xs) ≡ length xs

-- Both ascend.
abbrev pub PartsAscend : Type 0
PartsAscend = (least : ℕ) (xs : List ℕ) → Ascends 0 xs → Ascends 0 (inside least xs) × Ascends 0 (residuals_of least xs)

-- No interval is shorter than the least length.
abbrev pub AreLong : Type 0
AreLong = (least : ℕ) (xs : List ℕ) → All (λ run. least ≤ run.length) (intervals_of least xs)

-- If the archive has intervals, no residual stands among as many consecutive numbers of the list as make one.
abbrev pub ResidualsAreShort : Type 0
ResidualsAreShort = (least : ℕ) (xs : List ℕ) (y from : ℕ) → Ascends 0 xs → 0 < least
    → is_in y (residuals_of least xs) ≡ true
    → from ≤ y → y < from + least → ((z : ℕ) → from ≤ z → z < from + least → is_in z xs ≡ true) → ⊥
