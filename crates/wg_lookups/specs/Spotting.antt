-- A page of an archive that is not checked, in a validation.
use Rattle.std.specs.Prelude.{◌≡◌, ◌⊎◌, ℕ, Bool, List, Option, Result, Ok, Err, IsTrue, IfErr, OnOk}
use Rattle.wg_outside.specs.Outside.{Files, Counts, NonDecreasing}
use Rattle.wg_outside.specs.declared.depot.Depot as depot
use Rattle.wg_bits.specs.Bits.{bits_of}
use Rattle.wg_params.specs.Parameters.{Parameters}
use Rattle.wg_random.specs.Spot.{ChainAnswers}
use Rattle.wg_grammar.specs.declared.error.ReadError.{ReadError}
use Rattle.wg_grammar.specs.declared.fault.ArchiveFault.{ArchiveFault}
use Rattle.wg_grammar.specs.declared.error.ReadError.TheVariants as errors
use Rattle.wg_outcomes.specs.Answers.{IsHindrance, Steps, status_in}
use Rattle.wg_outcomes.specs.Causes.{HasCause}
use Rattle.wg_outcomes.specs.Judged.{Judged, offsets_then, with_file, with_successors}
use Rattle.wg_outcomes.specs.Names.{IsOfInput, file_of, held_by, no_outputs}
use Rattle.wg_outcomes.specs.Promised.{IsBadFile}
use Rattle.wg_outcomes.specs.Readings.{Readings}
use Rattle.wg_outcomes.specs.declared.ending.Ending.{Ending}
use Rattle.wg_outcomes.specs.declared.status.Input.{Input}
use Rattle.wg_outcomes.specs.declared.status.Input.TheVariants as input
use Rattle.wg_outcomes.specs.declared.status.Status.TheVariants.{BadArchive, Memory, NoPage}
use Rattle.wg_readings.specs.Pairing.{status_at, word_ending}
use Rattle.wg_lookups.specs.Showing.{HoldsGraphFile}
use Rattle.wg_lookups.specs.declared.chain_files.Unread.{Unread}
use Rattle.wg_lookups.specs.declared.chain_files.Unread.TheVariants as unread

-- how a job ends at a page that was not read, if the properties promise so many arcs
abbrev pub EndsBy : ℕ → ReadError ArchiveFault Unread → Ending → Type 0
EndsBy promised (errors.Fault f) e = (e.status ≡ BadArchive f) × (e.promised ≡ promised)
EndsBy promised errors.Memory e = e.status ≡ Memory
EndsBy promised (errors.Refused (unread.Graph x)) e = e.status ≡ status_at input.Graph x
EndsBy promised (errors.Refused (unread.Offsets x)) e = e ≡ word_ending promised x

-- goes on with the successors of a page, by these offsets and the records of its chain in the graph file
abbrev pub successors_then : Readings → Parameters → List ℕ → ℕ → Option (List ℕ) → (List ℕ → Judged) → Judged
successors_then r p places page held next =
    with_file input.Graph held (λ bytes. with_successors r p bytes places page next)

-- goes on with the successors of a page, by the places that the offsets file stores
abbrev pub spotted_then : Readings → Parameters → ℕ → Option (List ℕ) → Option (List ℕ) → (List ℕ → Judged) → Judged
spotted_then r p page stored held next = offsets_then r p stored (λ places. successors_then r p places page held next)

-- The successors of a page were not read: there is no such page, or one of the two files is at fault, or was not read;
-- and if the depot tells its bytes, both are there, so that something hindered it.
abbrev pub IsBadPage : Bool → ℕ → ℕ → Ending → Type 0
IsBadPage told page promised e =
    (e.status ≡ NoPage page) ⊎ (IsBadFile input.Graph promised e ⊎ IsBadFile input.Offsets promised e)
    ⊎ ((IsOfInput input.Graph e.status ⊎ IsOfInput input.Offsets e.status) × (IsTrue told → IsHindrance e.status))

-- The successors of a page were read, by the files of these names, or the job ends.
pub record SpotsPage (names : Input → Option (List ℕ)) (p : Parameters) (page : ℕ) (told : Bool) (files files' : Files)
    (counts counts' : List ℕ → Counts) (result : Result (List ℕ) Ending) : Type 0 where
  pub only : IfErr result (IsBadPage told page p.arcs)
  -- an absence or a fault is reported only if the outside counted it
  pub causes : HasCause names no_outputs counts counts' 0 0 (status_in result)
  -- it goes on with the successors, or ends like this
  pub steps : IsTrue told → (r : Readings)
      → Steps (spotted_then r p page (held_by names files input.Offsets) (held_by names files input.Graph)) result
  -- no file has changed, and no count of the depot falls
  pub same : files' ≡ files
  pub later : NonDecreasing counts counts'

abbrev pub SpotsPageBy : {D : Type 0} → depot.Ghosts D → (Input → Option (List ℕ)) → Parameters → ℕ → D → D
    → Result (List ℕ) Ending → Type 0
SpotsPageBy d names p page before after result =
    SpotsPage names p page d.told (d.files before) (d.files after) (d.counts before) (d.counts after) result

-- The records of a page's chain were opened, each once and no other, and this was answered; or there is no such page.
abbrev pub OpensChain : Parameters → List Bool → List ℕ → ℕ → ℕ → ℕ → Result (List ℕ) Ending → Type 0
OpensChain p bits places page from to (Ok list) = ChainAnswers {R = Unread} p bits places page from to (Ok list)
OpensChain p bits places page from to (Err e) =
    (to ≡ from) ⊎ ((why : ReadError ArchiveFault Unread) × ChainAnswers p bits places page from to (Err why))

-- The records of a page's chain were opened, by the places that a validation finds in the archive's offsets file.
pub record IsChainOpened (held : Input → Option (List ℕ)) (p : Parameters) (bytes : List ℕ) (page from to : ℕ)
    (answer : Result (List ℕ) (ReadError ArchiveFault Unread)) : Type 0 where
  pub places : List ℕ
  pub stored : (r : Readings) → Steps {B = List ℕ} (offsets_then r p (held input.Offsets)) (Ok places)
  pub answers : ChainAnswers p (bits_of bytes) places page from to answer

-- The line of a page was printed, and the records of its chain were opened, each once and no other; or only some of
-- them, or none.
pub record SpotsByChain (held : Input → Option (List ℕ)) (p : Parameters) (bytes : List ℕ) (page from to : ℕ)
    (result : Result (Unit {0}) Ending) : Type 0 where
  pub each : OnOk result ((list : List ℕ) × IsChainOpened held p bytes page from to (Ok list))
  pub most : (to ≡ from)
      ⊎ ((answer : Result (List ℕ) (ReadError ArchiveFault Unread)) × IsChainOpened held p bytes page from to answer)

abbrev pub SpotsByChainIn : {D : Type 0} → depot.Ghosts D → List ℕ → ℕ → D → ℕ → ℕ → Result (Unit {0}) Ending → Type 0
SpotsByChainIn d base page before from to result =
    IsTrue d.told → (p : Parameters) (bytes : List ℕ) → HoldsGraphFile (held_by (file_of base) (d.files before)) p bytes
    → SpotsByChain (held_by (file_of base) (d.files before)) p bytes page from to result
