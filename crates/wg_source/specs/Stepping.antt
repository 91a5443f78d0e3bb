-- Steps along a file of a depot.
use Rattle.std.specs.Prelude.{◌≡◌, ◌≢◌, ℕ, ◌<◌, ◌≤◌, Bool, true, List, length, Some, IsTrue}
use Rattle.std.specs.FinMap as map
use Rattle.wg_outside.specs.Outside.{Files, Counts, NonDecreasing, Increased}
use Rattle.wg_outside.specs.declared.limits.TheConstants.{MOST_BYTES}
use Rattle.wg_outside.specs.declared.whole.LoadError.{LoadError}
use Rattle.wg_outside.specs.declared.whole.LoadError.TheVariants as load
use Rattle.wg_source.specs.Held.{HeldBytes, IsHeldOf, IsSmall}

-- From one moment to a later one no file changes, no count falls, the offset does not fall, nobody looks again at the
-- limit, and if the depot tells its bytes, what is held of a file stays a part of it. What is held stays small.
pub record Steps (told : Bool) (name : List ℕ) (files1 files2 : Files) (counts1 counts2 : List ℕ → Counts)
    (h1 h2 : HeldBytes) : Type 0 where
  pub same : files2 ≡ files1
  pub later : NonDecreasing counts1 counts2
  pub onward : h1.at ≤ h2.at
  pub looked : h1.looked ≡ true → h2.looked ≡ true
  pub in_step : IsTrue told → (file : List ℕ) → map.get files1 name ≡ Some file → IsHeldOf file h1 → IsHeldOf file h2
  pub small : IsSmall h1 → IsSmall h2

-- Like `Steps`, but the next bit may be any.
pub record Moves (told : Bool) (name : List ℕ) (files1 files2 : Files) (counts1 counts2 : List ℕ → Counts)
    (h1 h2 : HeldBytes) : Type 0 where
  pub same : files2 ≡ files1
  pub later : NonDecreasing counts1 counts2
  pub looked : h1.looked ≡ true → h2.looked ≡ true
  pub in_step : IsTrue told → (file : List ℕ) → map.get files1 name ≡ Some file → IsHeldOf file h1 → IsHeldOf file h2

-- Why no more of a file was read: the outside counted it, or the file is too long.
pub record HasCause (told : Bool) (name : List ℕ) (files : Files) (counts1 counts2 : List ℕ → Counts) (h : HeldBytes)
    (e : LoadError) : Type 0 where
  pub absent : e ≡ load.Absent → Increased (counts1 name).absences (counts2 name).absences
  pub failed : e ≡ load.Failed → Increased (counts1 name).read_faults (counts2 name).read_faults
  pub memory : e ≡ load.Memory → Increased (counts1 name).wants (counts2 name).wants
  pub there : IsTrue told → (file : List ℕ) → map.get files name ≡ Some file → e ≢ load.Absent
  pub long : IsTrue told → (file : List ℕ) → map.get files name ≡ Some file → IsHeldOf file h → e ≡ load.TooLong
      → MOST_BYTES < length file
