-- An offsets file that is read in pieces, beside the records of its graph.
use Rattle.std.specs.Prelude.{◌≡◌, ℕ, ◌+◌, Bool, true, false, List, [], ◌∷◌, Option, Some, Result, Ok, Err, IsTrue, IfErr, OnOk, MatchResult}
use Rattle.std.specs.FinMap as map
use Rattle.wg_outside.specs.Outside.{Files, Counts}
use Rattle.wg_outside.specs.declared.whole.LoadError.{LoadError}
use Rattle.wg_bits.specs.Bits.{bits_of}
use Rattle.wg_params.specs.Parameters.{Parameters, IsWithinLimits}
use Rattle.wg_grammar.specs.declared.fault.ArchiveFault.TheVariants as archive
use Rattle.wg_offsets.specs.Comparing.{AreCompared}
use Rattle.wg_offsets.specs.Places.{last_place}
use Rattle.wg_offsets.specs.Stages.{AreRead}
use Rattle.wg_grammar.specs.declared.error.ReadError.{ReadError}
use Rattle.wg_grammar.specs.declared.fault.OffsetWord.{OffsetWord}
use Rattle.wg_grammar.specs.declared.error.ReadError.TheVariants as words
use Rattle.wg_source.specs.Held.{IsHeldOf}
use Rattle.wg_outcomes.specs.Answers.{Steps, status_in}
use Rattle.wg_outcomes.specs.Causes.{HasCause}
use Rattle.wg_outcomes.specs.Judged.{Judged, offsets_then, with_lengths}
use Rattle.wg_outcomes.specs.Names.{no_outputs}
use Rattle.wg_outcomes.specs.Promised.{IsStopAt}
use Rattle.wg_readings.specs.Passes.{graph_then}
pub use Rattle.wg_readings.specs.Passes.{status_at}
use Rattle.wg_outcomes.specs.Readings.{Readings}
use Rattle.wg_outcomes.specs.declared.ending.Ending.{Ending}
use Rattle.wg_readings.specs.declared.pairing.Pairing.{Pairing}
use Rattle.wg_outcomes.specs.declared.status.Input.{Input}
use Rattle.wg_outcomes.specs.declared.status.Input.TheVariants as input
use Rattle.wg_outcomes.specs.declared.status.Status.TheVariants.{Memory, BadArchive}

-- how a job ends whose offsets file is not read on: at a word, if the properties promise so many arcs, or at its input
abbrev pub word_ending : ℕ → ReadError OffsetWord LoadError → Ending
word_ending promised (words.Fault w) = record { status = BadArchive (archive.Offsets w); promised = promised }
word_ending promised words.Memory = record { status = Memory; promised = 0 }
word_ending promised (words.Refused e) = record { status = status_at input.Offsets e; promised = 0 }

-- before the first word
pub record IsUnread (p : Parameters) (b : Pairing) : Type 0 where
  pub going : b.so_far ≡ Ok tt
  pub held : b.held ≡ record { bytes = []; first = 0; at = 0; ended = false; looked = false }
  pub words : b.words ≡ record { code = p.offsets; pages = p.nodes; count = 0; offset = 0 }
  pub none : (bits : List Bool) → AreRead bits b.words 0 []
  pub page : b.lengths.page ≡ 0
  pub here : b.lengths.here ≡ 0
  pub there : b.lengths.there ≡ 0
  pub compared : AreCompared b.lengths (0 ∷ []) (0 ∷ [])

-- after each record as many words were read as there are records, and one more
pub record IsPaired (p : Parameters) (b : Pairing) : Type 0 where
  pub code : b.words.code ≡ p.offsets
  pub pages : b.words.pages ≡ p.nodes
  pub count : b.words.count ≡ b.lengths.page + 1
  pub there : b.lengths.there ≡ b.words.offset
  pub looked : b.held.looked ≡ true

-- the words that were read are those of this file, and the lengths that they tell were compared with those of the
-- records
pub record IsPairedWith (file : List ℕ) (b : Pairing) (here there : List ℕ) : Type 0 where
  pub held : IsHeldOf file b.held
  pub read : AreRead (bits_of file) b.words b.held.at there
  pub compared : AreCompared b.lengths here there

-- What an error of the offsets file tells.
pub record IsStopped (told : Bool) (files : Files) (counts counts' : List ℕ → Counts) (p : Parameters) (name : List ℕ)
    (e : Ending) : Type 0 where
  pub only : IsStopAt input.Offsets p.arcs e
  pub causes : (names : Input → Option (List ℕ)) → names input.Offsets ≡ Some name
      → HasCause names no_outputs counts counts' 0 0 e.status
  pub refused : IsTrue told → IsWithinLimits p → (r : Readings)
      → Steps {B = List ℕ} (offsets_then r p (map.get files name)) (Err e)

-- the pairing has come to the end of so many records, the last of which ends at this bit
abbrev pub IsAt : Bool → Files → Parameters → List ℕ → ℕ → ℕ → Pairing → Type 0
IsAt told files p name n at b =
    IsPaired p b × (b.lengths.page ≡ n) × (b.lengths.here ≡ at)
    × (IsTrue told → (file : List ℕ) × (map.get files name ≡ Some file))

-- How far it has come: to the end of so many records, or to the first error of the offsets file, after which no more is
-- read.
abbrev pub HasCome : Bool → Files → (List ℕ → Counts) → (List ℕ → Counts) → Parameters → List ℕ → ℕ → ℕ → Pairing
    → Type 0
HasCome told files counts counts' p name n at b =
    MatchResult b.so_far (λ done. IsAt told files p name n at b) (IsStopped told files counts counts' p name)

abbrev pub ComesWith : List ℕ → Pairing → List ℕ → Type 0
ComesWith file b here = OnOk b.so_far ((there : List ℕ) × IsPairedWith file b here there)

-- What the end of a pairing is: the offsets file is validated to its end, and then the lengths that it tells are
-- compared with those of the records.
pub record EndsPairing (told : Bool) (files : Files) (counts counts' : List ℕ → Counts) (p : Parameters)
    (name : List ℕ) (b : Pairing) (result : Result (Unit {0}) Ending) : Type 0 where
  pub only : IfErr result (IsStopAt input.Offsets p.arcs)
  pub causes : (names : Input → Option (List ℕ)) → names input.Offsets ≡ Some name
      → HasCause names no_outputs counts counts' 0 0 (status_in result)
  pub steps : IsTrue told → IsWithinLimits p → (places : List ℕ)
      → ((file : List ℕ) → map.get files name ≡ Some file → ComesWith file b places) → (r : Readings)
      → Steps (λ next. offsets_then r p (map.get files name) (λ stored. with_lengths places stored next)) result

-- goes on with how many bits the records have, if graph and offsets are in order and tell the same lengths
abbrev pub files_then : Readings → Parameters → (Input → Option (List ℕ)) → (ℕ → Judged) → Judged
files_then r p held next =
    graph_then r p (held input.Graph)
    (λ a. offsets_then r p (held input.Offsets)
    (λ stored. with_lengths a.places stored (λ same. next (last_place a.places))))
