-- The places of some pages, from which those of all others are found.
use Rattle.std.specs.Prelude.{ℕ, ◌+◌, ◌*◌, ◌/◌, ◌<◌, Bool, List, length, get_or, Ok}
use Rattle.wg_params.specs.declared.code.Code.{Code}
use Rattle.wg_offsets.specs.declared.samples.TheConstants.{SAMPLED}
use Rattle.wg_offsets.specs.Words.{ReadsOffsets}
use Rattle.wg_offsets.specs.Stages.{WordsStand}

-- the code; the number of records; of each page that is sampled its place, and the bit of the file after its word
pub record Sampled : Type 0 where
  pub code : Code
  pub pages : ℕ
  pub places : List ℕ
  pub bits : List ℕ

-- the words of the file up to that of each sampled page lead to this place, and the next word begins at this bit
abbrev pub AreSamples : Code → List Bool → List ℕ → List ℕ → Type 0
AreSamples c file places bits = (k : ℕ) → k < length places
    → (before : List ℕ) × WordsStand c file (SAMPLED * k + 1) (get_or bits k 0) (get_or places k 0) before

-- the file stores these places, and the samples are of it
pub record IsSampleOf (file : List Bool) (s : Sampled) (places : List ℕ) : Type 0 where
  pub reads : ReadsOffsets s.code s.pages file (Ok places)
  pub samples : AreSamples s.code file s.places s.bits

-- the bit after the word of the last sampled page up to this one
abbrev pub bit_before : Sampled → ℕ → ℕ
bit_before s page = get_or s.bits (page / SAMPLED) 0
