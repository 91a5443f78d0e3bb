-- What has gone out of an archive, and what stands of its files if the writing stopped.
use Rattle.std.specs.Prelude.{◌≡◌, ◌≢◌, ◌⊎◌, ℕ, Bool, List, ◌++◌, Option, Some, Result}
use Rattle.std.specs.Prelude.{IsTrue, IfOk, IfErr, OnErr}
use Rattle.std.specs.FinMap as fin
use Rattle.wg_outside.specs.Outside.{Files, Counts, Increased, NonDecreasing}
use Rattle.wg_outside.specs.Suffixes.{graph_name, offsets_name}
use Rattle.wg_outside.specs.declared.output.Output.{Output}
use Rattle.wg_outside.specs.declared.output.Output.TheVariants as output
use Rattle.wg_outside.specs.declared.depot.Depot as depot
use Rattle.wg_bits.specs.Bits.{bits_of}
use Rattle.wg_bits.specs.Written.{HasPut, HasPutLess}
use Rattle.wg_params.specs.Parameters.{Parameters}
use Rattle.wg_greedy.specs.Archive.{graph_bits, offsets_bits, graph_file, offsets_file}
use Rattle.wg_greedy.specs.Held.{AreBytes, HoldsFront, HoldsLess}
use Rattle.wg_encoder.specs.Encoding.{Encoded, Encoding, lists_before, words_before}
use Rattle.wg_encoder.specs.declared.error.EncodeError.{EncodeError}
use Rattle.wg_encoder.specs.declared.error.EncodeError.TheVariants as error

-- The file is there, and its bits and those that wait to go out are these bits.
pub record HasSent (file : Option (List ℕ)) (waits bits : List Bool) : Type 0 where
  pub sent : List ℕ
  pub there : file ≡ Some sent
  pub bytes : AreBytes sent
  pub all : bits_of sent ++ waits ≡ bits

-- no file but the graph file and the offsets file has changed
abbrev pub OnlyTwo : List ℕ → Files → Files → Type 0
OnlyTwo base old new = (name : List ℕ) → name ≢ graph_name base → name ≢ offsets_name base
    → fin.get new name ≡ fin.get old name

-- The files with what waits have the records of these lists, and the words of the offsets but the one that is due.
pub record HasSentLists (files : Files) (base : List ℕ) (p : Parameters) (lists : List (List ℕ))
    (graph_waits offsets_waits : List Bool) : Type 0 where
  pub records : HasSent (fin.get files (graph_name base)) graph_waits (graph_bits p lists)
  pub words : HasSent (fin.get files (offsets_name base)) offsets_waits (words_before p lists)

-- what an encoder of lists has sent: the records of these lists, and the words of the offsets but the one that is due
abbrev pub HasSentAll : Files → List ℕ → Encoded → List (List ℕ) → Type 0
HasSentAll files base e lists = HasSentLists files base e.params lists e.graph_waits e.offsets_waits

-- what an encoder of a graph has sent, where the lists are those of the pages before this one
abbrev pub HasSentUpTo : Files → List ℕ → Encoding → Type 0
HasSentUpTo files base e = HasSentLists files base e.params (lists_before e) e.graph_waits e.offsets_waits

-- The files with what waits have all of an archive, but the zeros that fill up a byte.
pub record HasAll (files : Files) (base : List ℕ) (p : Parameters) (lists : List (List ℕ))
    (graph_waits offsets_waits : List Bool) : Type 0 where
  pub records : HasSent (fin.get files (graph_name base)) graph_waits (graph_bits p lists)
  pub words : HasSent (fin.get files (offsets_name base)) offsets_waits (offsets_bits p lists)

-- the files of the greedy archive
abbrev pub IsWritten : Files → List ℕ → Parameters → List (List ℕ) → Type 0
IsWritten files base p lists =
    (fin.get files (graph_name base) ≡ Some (graph_file p lists))
    × (fin.get files (offsets_name base) ≡ Some (offsets_file p lists))

-- Both files are prefixes of the greedy archive's: the one that a call failed on lacks something, and so does one of
-- them at out of memory.
abbrev pub HasStopped : Files → List ℕ → Parameters → List (List ℕ) → EncodeError → Type 0
HasStopped files base p lists (error.Failed output.Graph) =
    HoldsLess (fin.get files (graph_name base)) (graph_file p lists)
    × HoldsFront (fin.get files (offsets_name base)) (offsets_file p lists)
HasStopped files base p lists (error.Failed output.Offsets) =
    HoldsFront (fin.get files (graph_name base)) (graph_file p lists)
    × HoldsLess (fin.get files (offsets_name base)) (offsets_file p lists)
HasStopped files base p lists error.Memory =
    (HoldsLess (fin.get files (graph_name base)) (graph_file p lists)
    × HoldsFront (fin.get files (offsets_name base)) (offsets_file p lists))
    ⊎ (HoldsFront (fin.get files (graph_name base)) (graph_file p lists)
    × HoldsLess (fin.get files (offsets_name base)) (offsets_file p lists))
HasStopped files base p lists (error.Failed output.Properties) = ⊥
HasStopped files base p lists (error.Failed output.Certificate) = ⊥
HasStopped files base p lists (error.Failed output.Out) = ⊥

-- A call failed on one of the two files alone, and only if the count of its failures increased.
abbrev pub HasFailed : List ℕ → (List ℕ → Counts) → (List ℕ → Counts) → EncodeError → Type 0
HasFailed base old new (error.Failed output.Graph) =
    Increased (old (graph_name base)).write_faults (new (graph_name base)).write_faults
HasFailed base old new (error.Failed output.Offsets) =
    Increased (old (offsets_name base)).write_faults (new (offsets_name base)).write_faults
HasFailed base old new error.Memory = Unit {0}
HasFailed base old new (error.Failed output.Properties) = ⊥
HasFailed base old new (error.Failed output.Certificate) = ⊥
HasFailed base old new (error.Failed output.Out) = ⊥

-- a call on one file failed, and only if the count of its failures increased; or memory ran out
abbrev pub HasFailedOn : Output → ℕ → ℕ → EncodeError → Type 0
HasFailedOn named before now e = ((e ≡ error.Failed named) × Increased before now) ⊎ (e ≡ error.Memory)

-- What a call promises that puts bits on their way into one of the two files: by the depot's ghost members, before and
-- after, the bits that waited, those that it puts, and those that wait then.
pub record SendsTo {D A : Type 0} (named : Output) (d : depot.Ghosts D) (before after : D) (name : List ℕ)
    (waited put : List Bool) (waits : A → List Bool) (result : Result A EncodeError) : Type 0 where
  -- at Ok all are on their way
  pub ok : IsTrue d.told → IfOk result (λ x. HasPut (d.files before) (d.files after) name waited put (waits x))
  -- after an error a proper prefix of them is out
  pub err : IsTrue d.told → OnErr result (HasPutLess (d.files before) (d.files after) name waited put)
  -- a failure is of this file, and the depot's own
  pub fault : IfErr result (HasFailedOn named (d.counts before name).write_faults (d.counts after name).write_faults)
  pub later : NonDecreasing (d.counts before) (d.counts after)
