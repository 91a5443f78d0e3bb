-- An offsets file of which samples are kept.
use Rattle.std.specs.Prelude.{◌≡◌, ℕ, Bool, List, Option, Some, Result, Ok, IsTrue, IfOk}
use Rattle.std.specs.FinMap as map
use Rattle.wg_outside.specs.Outside.{Files, Counts}
use Rattle.wg_outside.specs.declared.depot.Depot as depot
use Rattle.wg_outside.specs.declared.whole.LoadError.{LoadError}
use Rattle.wg_bits.specs.Bits.{bits_of}
use Rattle.wg_params.specs.Parameters.{Parameters}
use Rattle.wg_offsets.specs.Sampling.{Sampled, IsSampleOf}
use Rattle.wg_grammar.specs.declared.error.ReadError.{ReadError}
use Rattle.wg_grammar.specs.declared.fault.OffsetWord.{OffsetWord}
use Rattle.wg_grammar.specs.declared.error.ReadError.TheVariants as words
use Rattle.wg_source.specs.Stepping.{HasCause as HasReadCause}
use Rattle.wg_outcomes.specs.Answers.{Steps}
use Rattle.wg_outcomes.specs.Judged.{offsets_then}
use Rattle.wg_outcomes.specs.Names.{file_of, held_by}
use Rattle.wg_outcomes.specs.Readings.{Readings}
use Rattle.wg_outcomes.specs.declared.ending.Ending.{Ending}
use Rattle.wg_outcomes.specs.declared.status.Input.{Input}
use Rattle.wg_outcomes.specs.declared.status.Input.TheVariants as input
use Rattle.wg_readings.specs.Finding.{IsOpenOn}
use Rattle.wg_readings.specs.Loading.{Reads}
use Rattle.wg_lookups.specs.declared.sampled.SampledFile.{SampledFile}

-- these bytes store some places, by the code of the parameters, and the samples are of them
abbrev pub IsSampledBy : Parameters → List ℕ → Sampled → Type 0
IsSampledBy p bytes s = (s.code ≡ p.offsets) × (places : List ℕ) × IsSampleOf (bits_of bytes) s places

-- the file is there and stores these places, and the samples are of them
pub record IsSampledOn (found : Option (List ℕ)) (s : SampledFile) (places : List ℕ) : Type 0 where
  pub open_on : IsOpenOn found s.file.held
  pub is : IsSampleOf (bits_of open_on.file) s.samples places

-- The offsets file of these names is the one that was sampled, and a validation goes on with its places.
pub record IsSampled (names : Input → Option (List ℕ)) (files : Files) (p : Parameters) (s : SampledFile) : Type 0 where
  pub places : List ℕ
  pub on : IsSampledOn (map.get files s.file.name) s places
  pub goes : (r : Readings) → Steps {B = List ℕ} (offsets_then r p (held_by names files input.Offsets)) (Ok places)

-- The offsets file of an archive was validated, held against no graph, and samples of its places were kept; or the job
-- ends at this file.
pub record SamplesOffsets (base : List ℕ) (p : Parameters) (told : Bool) (files files' : Files)
    (counts counts' : List ℕ → Counts) (result : Result SampledFile Ending) : Type 0 where
  pub reads : Reads {B = List ℕ} base input.Offsets p.arcs (λ r. offsets_then r p) told files files' counts counts'
      result
  pub name : IfOk result (λ s. file_of base input.Offsets ≡ Some s.file.name)
  pub pages : IfOk result (λ s. s.samples.pages ≡ p.nodes)
  pub sampled : IsTrue told → IfOk result (IsSampled (file_of base) files p)

abbrev pub SamplesOffsetsBy : {D : Type 0} → depot.Ghosts D → List ℕ → Parameters → D → D → Result SampledFile Ending
    → Type 0
SamplesOffsetsBy d base p before after result =
    SamplesOffsets base p d.told (d.files before) (d.files after) (d.counts before) (d.counts after) result

-- Why words that were read before are not read again: as with any file, or the file is not the one that was sampled.
abbrev pub HasWordCause : Bool → Files → (List ℕ → Counts) → (List ℕ → Counts) → SampledFile
    → ReadError OffsetWord LoadError
    → Type 0
HasWordCause told files counts counts' s (words.Refused e) =
    HasReadCause told s.file.name files counts counts' s.file.held e
HasWordCause told files counts counts' s words.Memory = ⊥
HasWordCause told files counts counts' s (words.Fault w) = IsTrue told → (places : List ℕ)
    → IsSampledOn (map.get files s.file.name) s places → ⊥
