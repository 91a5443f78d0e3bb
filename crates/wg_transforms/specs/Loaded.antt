-- An archive whose three files are validated before a job goes on with its graph.
use Rattle.std.specs.Prelude.{◌≡◌, ◌⊎◌, ℕ, ◌≤◌, Bool, List, length, Result, Ok, Err, IsTrue, IfOk, IfErr}
use Rattle.wg_outside.specs.Outside.{Files, Counts, NonDecreasing}
use Rattle.wg_outside.specs.declared.depot.Depot as depot
use Rattle.wg_outside.specs.declared.limits.TheConstants.{MOST_BYTES}
use Rattle.wg_bits.specs.Bits.{bits_of}
use Rattle.wg_params.specs.Parameters.{Parameters, IsWithinLimits}
use Rattle.wg_grammar.specs.Archive.{Accepted, ReadsGraph}
use Rattle.wg_outcomes.specs.Answers.{Answers, Steps, status_in, without}
use Rattle.wg_outcomes.specs.Causes.{HasCause}
use Rattle.wg_outcomes.specs.Judged.{Judged, refused, with_archive, with_graph}
use Rattle.wg_stream.specs.Sweeping.{greatest_outdegree}
use Rattle.wg_readings.specs.Loading.{JudgesOffsets}
use Rattle.wg_outcomes.specs.Names.{file_of, held_by, no_outputs}
use Rattle.wg_outcomes.specs.Promised.{ArePromised, IsBadFile, promised_in}
use Rattle.wg_outcomes.specs.Readings.{Readings}
use Rattle.wg_outcomes.specs.Second.{second_ending}
use Rattle.wg_outcomes.specs.declared.ending.Ending.{Ending}
use Rattle.wg_outcomes.specs.declared.status.Input.{Input}
use Rattle.wg_outcomes.specs.declared.status.Input.TheVariants.{Properties, Graph, Offsets}
use Rattle.wg_outcomes.specs.declared.status.Status.{Status}
use Rattle.wg_outcomes.specs.declared.status.Status.TheVariants.{Memory, ReadFault, Missing, BadProperties, BadArchive, OverLimit}
use Rattle.wg_transforms.specs.declared.loaded.Loaded.{Loaded}

-- the input is one of an archive's files
abbrev pub IsArchiveFile : Input → Type 0
IsArchiveFile Properties = Unit {0}
IsArchiveFile Graph = Unit {0}
IsArchiveFile Offsets = Unit {0}
IsArchiveFile _ = ⊥

-- how the reading and validation of an archive can end a job
abbrev pub IsOfArchive : Status → Type 0
IsOfArchive Memory = Unit {0}
IsOfArchive (ReadFault i) = IsArchiveFile i
IsOfArchive (Missing i) = IsArchiveFile i
IsOfArchive (OverLimit i) = IsArchiveFile i
IsOfArchive (BadProperties f) = Unit {0}
IsOfArchive (BadArchive f) = Unit {0}
IsOfArchive _ = ⊥

-- the bytes stand for this graph, and this is its greatest outdegree
abbrev pub IsJudged : Parameters → List ℕ → ℕ → Accepted → Type 0
IsJudged p bytes greatest a = ReadsGraph p (bits_of bytes) (Ok a) × (greatest ≡ greatest_outdegree a.graph)

-- the graph file that was read, by its parameters, stands for this graph
pub record IsLoaded (l : Loaded) (a : Accepted) : Type 0 where
  pub limits : IsWithinLimits l.params
  pub short : length l.bytes ≤ MOST_BYTES
  pub judged : IsJudged l.params l.bytes l.greatest a

-- The graph file of an archive that is held, and its offsets file, were validated.
pub record JudgesArchive (base : List ℕ) (p : Parameters) (bytes : List ℕ) (told : Bool) (files files' : Files)
    (counts counts' : List ℕ → Counts) (result : Result ℕ Ending) : Type 0 where
  pub limits : IsWithinLimits p
  -- the bytes stand for a graph, and the offsets file stores the lengths of its records
  pub goes : IfOk result
      (λ greatest. (a : Accepted) × IsJudged p bytes greatest a
      × JudgesOffsets base p a.places told files files' counts counts' (Ok tt))
  -- or they do not, or the job ends at the offsets file
  pub ends : IfErr result
      (λ e. (IsBadFile Graph p.arcs e × ((r : Readings) → Steps {B = Accepted} (with_graph r p bytes) (Err e))
      × (files' ≡ files) × NonDecreasing counts counts')
      ⊎ ((a : Accepted) × ReadsGraph p (bits_of bytes) (Ok a)
      × JudgesOffsets base p a.places told files files' counts counts' (Err e)))

abbrev pub JudgesArchiveBy : {D : Type 0} → depot.Ghosts D → List ℕ → Parameters → List ℕ → D → D → Result ℕ Ending
    → Type 0
JudgesArchiveBy d base p bytes before after result =
    JudgesArchive base p bytes d.told (d.files before) (d.files after) (d.counts before) (d.counts after) result

-- The three files of an archive were validated, and its graph file is held, or the job ends at one of them.
pub record LoadsArchive (base : List ℕ) (told : Bool) (files files' : Files) (counts counts' : List ℕ → Counts)
    (result : Result Loaded Ending) : Type 0 where
  -- it goes on with the graph
  pub goes : IfOk result (λ l. (a : Accepted) × IsLoaded l a
      × (IsTrue told → (r : Readings) (next : Parameters → Accepted → Judged)
      → with_archive r (held_by (file_of base) files) next ≡ next l.params a))
  -- or it ends like this, whatever would have come next
  pub ends : IsTrue told → (r : Readings)
      → IfErr result (λ e. (next : Parameters → Accepted → Judged)
      → Answers (with_archive r (held_by (file_of base) files) next) e.status)
  pub only : IfErr result (λ e. IsOfArchive e.status)
  -- an absence or a fault is reported only if the outside counted it
  pub causes : HasCause (file_of base) no_outputs counts counts' 0 0 (status_in result)
  -- a file that could not be read is the first that would be missed
  pub reached : IsTrue told → (r : Readings) (i : Input) → status_in result ≡ ReadFault i
      → (next : Parameters → Accepted → Judged)
      → with_archive r (without i (held_by (file_of base) files)) next ≡ refused (Missing i)
  -- the arcs are those that the line of the status names
  pub promised : IsTrue told → ArePromised (held_by (file_of base) files) (status_in result) (promised_in result)
  -- no file has changed, and no count of the depot falls
  pub same : files' ≡ files
  pub later : NonDecreasing counts counts'

abbrev pub LoadsArchiveBy : {D : Type 0} → depot.Ghosts D → List ℕ → D → D → Result Loaded Ending → Type 0
LoadsArchiveBy d base before after result =
    LoadsArchive base d.told (d.files before) (d.files after) (d.counts before) (d.counts after) result

-- what comes of reading the second archive of a job: its end is reported as the second's
abbrev pub result_of_second : Result Loaded Ending → Result Loaded Ending
result_of_second (Ok l) = Ok l
result_of_second (Err e) = Err (second_ending e)

abbrev pub LoadsSecondBy : {D : Type 0} → depot.Ghosts D → List ℕ → D → D → Result Loaded Ending → Type 0
LoadsSecondBy d base before after result = (read : Result Loaded Ending) × LoadsArchiveBy d base before after read
    × (result ≡ result_of_second read)
