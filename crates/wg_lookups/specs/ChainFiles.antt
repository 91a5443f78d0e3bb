-- The files that the records of a chain are read from.
use Rattle.std.specs.Prelude.{◌≡◌, ℕ, Bool, List, Some, IsTrue}
use Rattle.std.specs.FinMap as map
use Rattle.wg_outside.specs.Outside.{Files, Counts}
use Rattle.wg_bits.specs.Bits.{bits_of}
use Rattle.wg_source.specs.Held.{IsHeldOf}
use Rattle.wg_source.specs.Stepping.{Steps, Moves, HasCause}
use Rattle.wg_lookups.specs.Sampling.{HasWordCause, IsSampledOn}
use Rattle.wg_lookups.specs.declared.found_file.FoundFile.{FoundFile}
use Rattle.wg_lookups.specs.declared.sampled.SampledFile.{SampledFile}
use Rattle.wg_lookups.specs.declared.chain_files.Unread.{Unread}
use Rattle.wg_lookups.specs.declared.chain_files.Unread.TheVariants as unread

-- the graph file is there, what is held is a part of it, and these are its bits
abbrev pub HasBits : Bool → Files → FoundFile → List Bool → Type 0
HasBits told files g bits = IsTrue told × ((file : List ℕ) × (map.get files g.name ≡ Some file) × IsHeldOf file g.held
    × (bits_of file ≡ bits))

-- the offsets file stores these places, and is the one that was sampled
abbrev pub HasPlaces : Bool → Files → SampledFile → List ℕ → Type 0
HasPlaces told files s places = IsTrue told × IsSampledOn (map.get files s.file.name) s places

-- From one moment to a later one the graph file was read on, and the offsets file was let be.
pub record ReadsOn (told : Bool) (files files' : Files) (counts counts' : List ℕ → Counts) (g g' : FoundFile)
    (s s' : SampledFile) : Type 0 where
  pub name : g'.name ≡ g.name
  pub offsets : s' ≡ s
  pub steps : Steps told g.name files files' counts counts' g.held g'.held

-- From one moment to a later one both files were read, at any places.
pub record ReadsBoth (told : Bool) (files files' : Files) (counts counts' : List ℕ → Counts) (g g' : FoundFile)
    (s s' : SampledFile) : Type 0 where
  pub name : g'.name ≡ g.name
  pub stored : s'.file.name ≡ s.file.name
  pub samples : s'.samples ≡ s.samples
  pub graph : Moves told g.name files files' counts counts' g.held g'.held
  pub offsets : Moves told s.file.name files files' counts counts' s.file.held s'.file.held

-- Why no more of one of them was read.
abbrev pub HasChainCause : Bool → Files → (List ℕ → Counts) → (List ℕ → Counts) → FoundFile → SampledFile → Unread
    → Type 0
HasChainCause told files counts counts' g s (unread.Graph e) = HasCause told g.name files counts counts' g.held e
HasChainCause told files counts counts' g s (unread.Offsets e) = HasWordCause told files counts counts' s e
