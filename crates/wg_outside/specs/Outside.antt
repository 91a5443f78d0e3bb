-- Files by their names, and counts of refused calls.
use Rattle.std.specs.Prelude.{◌⊎◌, ℕ, ◌+◌, ◌-◌, ◌<◌, ◌≤◌, ◌^◌, min, List, [], ◌∷◌, ◌++◌, unwrap_or}
use Rattle.std.specs.Ordering.{nat_cmp}
use Rattle.std.specs.Cmp.Lexicographic.{slice_cmp}
use Rattle.std.specs.FinMap as map
use Rattle.std.specs.Coded.{Coded, coded_list, coded_ℕ}

-- from the bytes of a name to the bytes of its file
abbrev pub Files : Type 0
Files = map.FinMap (slice_cmp nat_cmp) (List ℕ)

abbrev pub files_code : Coded Files
files_code = map.code (coded_list coded_ℕ) (coded_list coded_ℕ)

-- what a name holds, and nothing if there is no such file
abbrev pub content : Files → List ℕ → List ℕ
content files name = unwrap_or (map.get files name) []

-- with an empty file of this name
abbrev pub created : Files → List ℕ → Files
created files name = map.insert files name []

-- with these bytes more at the end of that file, which is begun if it is absent
abbrev pub appended : Files → List ℕ → List ℕ → Files
appended files name [] = files
appended files name (b ∷ bs) = map.insert files name (content files name ++ b ∷ bs)

-- how often the calls on a name were refused
pub record Counts : Type 0 where
  pub read_faults : ℕ
  pub write_faults : ℕ
  pub absences : ℕ
  pub wants : ℕ

-- a count went up, or it stands at its last value
abbrev pub Increased : ℕ → ℕ → Type 0
Increased before now = (before < now) ⊎ (2 ^ 64 - 1 ≤ now)

-- one more, up to the last value
abbrev pub risen : ℕ → ℕ
risen count = min (count + 1) (2 ^ 64 - 1)

-- no count of any name falls
pub record NonDecreasing (old new : List ℕ → Counts) : Type 0 where
  pub read_faults : (n : List ℕ) → (old n).read_faults ≤ (new n).read_faults
  pub write_faults : (n : List ℕ) → (old n).write_faults ≤ (new n).write_faults
  pub absences : (n : List ℕ) → (old n).absences ≤ (new n).absences
  pub wants : (n : List ℕ) → (old n).wants ≤ (new n).wants
