-- Files in memory, in a list.
use Rattle.std.specs.Prelude.{◌≡◌, ◌≢◌, ◌<◌, ℕ, List, length, map, take, All, Some, slice_get, string_bytes}
use Rattle.std.specs.FinMap.{from_entries}
use Rattle.wg_outside.specs.Outside.{Files}
use Rattle.wg_io.specs.declared.held.Held.{Held}

-- the first file of a name counts
abbrev pub files_of : List Held → Files
files_of helds = from_entries (map (λ h. (string_bytes h.name, h.bytes.items)) helds)

abbrev pub IsOther : List ℕ → Held → Type 0
IsOther name held = string_bytes held.name ≢ name

-- the first file of this name stands at this index
pub record IsAt (helds : List Held) (name : List ℕ) (index : ℕ) : Type 0 where
  pub within : index < length helds
  pub named : (h : Held) → slice_get helds index ≡ Some h → string_bytes h.name ≡ name
  pub first : All (IsOther name) (take index helds)
