-- What stands of the files of a job that writes an archive or a certificate.
use Rattle.std.specs.Prelude.{◌≡◌, ◌≢◌, ◌⊎◌, ℕ, Bool, List, [], Option, Some, None, Result, IsTrue, IfErr}
use Rattle.std.specs.FinMap as map
use Rattle.wg_outside.specs.Outside.{Files, Counts, NonDecreasing}
use Rattle.wg_outside.specs.declared.depot.Depot as depot
use Rattle.wg_outside.specs.declared.output.Output.{Output}
use Rattle.wg_outside.specs.declared.output.Output.TheVariants as output
use Rattle.wg_params.specs.Parameters.{Parameters, params_of}
use Rattle.wg_properties.specs.Text.{text_of}
use Rattle.wg_graph.specs.Digraph.{Digraph, arc_count}
use Rattle.wg_greedy.specs.Archive.{Archive, graph_file, offsets_file}
use Rattle.wg_greedy.specs.Held.{HoldsFront, HoldsLess}
use Rattle.wg_params.specs.declared.layout.Layout.{Layout}
use Rattle.wg_outcomes.specs.Answers.{status_in}
use Rattle.wg_outcomes.specs.Causes.{IncreasedAt}
use Rattle.wg_outcomes.specs.Judged.{Written, an_archive, a_certificate}
use Rattle.wg_outcomes.specs.Names.{archive_named}
use Rattle.wg_outcomes.specs.declared.ending.Ending.{Ending}
use Rattle.wg_outcomes.specs.declared.status.Status.{Status}
use Rattle.wg_outcomes.specs.declared.status.Status.TheVariants.{Done, Memory, WriteFault}

-- the parameters of an archive of a graph in this layout
abbrev pub params_for : Layout → Digraph → Parameters
params_for l g = params_of l g.nodes (arc_count g)

-- the greedy archive of a graph
abbrev pub greedy_archive : Parameters → Digraph → Archive
greedy_archive p g = record { properties = text_of p; graph = graph_file p g.lists; offsets = offsets_file p g.lists }

-- what the three files of an archive hold, each if it is there
pub record ArchiveFiles : Type 0 where
  pub properties : Option (List ℕ)
  pub graph : Option (List ℕ)
  pub offsets : Option (List ℕ)

abbrev pub content_of : Files → Option (List ℕ) → Option (List ℕ)
content_of files None = None
content_of files (Some name) = map.get files name

-- the files of these names
abbrev pub archive_at : (Output → Option (List ℕ)) → Files → ArchiveFiles
archive_at names files = record {
  properties = content_of files (names output.Properties);
  graph = content_of files (names output.Graph);
  offsets = content_of files (names output.Offsets);
}

-- what the three files of an archive of this name hold
abbrev pub archive_in : List ℕ → Files → ArchiveFiles
archive_in base files = archive_at (archive_named base) files

-- no other file has changed
abbrev pub OthersStay : (Output → Option (List ℕ)) → Files → Files → Type 0
OthersStay names old new = (name : List ℕ) → ((o : Output) → names o ≢ Some name) → map.get new name ≡ map.get old name

-- all of the archive
abbrev pub AreWhole : Archive → ArchiveFiles → Type 0
AreWhole a new = (new.properties ≡ Some a.properties) × (new.graph ≡ Some a.graph) × (new.offsets ≡ Some a.offsets)

-- nothing, or all but the end of the properties
abbrev pub StopAtProperties : Archive → ArchiveFiles → ArchiveFiles → Type 0
StopAtProperties a old new =
    (new ≡ old) ⊎ ((new.graph ≡ Some a.graph) × (new.offsets ≡ Some a.offsets)
    × HoldsLess new.properties a.properties)

-- the properties are empty; the others are as before, or prefixes of the archive's, and the graph file lacks something
abbrev pub StopAtGraph : Archive → ArchiveFiles → ArchiveFiles → Type 0
StopAtGraph a old new =
    (new.properties ≡ Some [])
    × (((new.graph ≡ old.graph) × (new.offsets ≡ old.offsets)) ⊎
    (HoldsLess new.graph a.graph × HoldsFront new.offsets a.offsets))

-- the properties are empty; the graph file is and the offsets are as before, or both are prefixes of the archive's, and
-- the offsets lack something
abbrev pub StopAtOffsets : Archive → ArchiveFiles → ArchiveFiles → Type 0
StopAtOffsets a old new =
    (new.properties ≡ Some [])
    × (((new.graph ≡ Some []) × (new.offsets ≡ old.offsets)) ⊎
    (HoldsFront new.graph a.graph × HoldsLess new.offsets a.offsets))

-- the three files are there, and empty
abbrev pub emptied : ArchiveFiles
emptied = record { properties = Some []; graph = Some []; offsets = Some [] }

-- only the properties are missing
abbrev pub unnamed : Archive → ArchiveFiles
unnamed a = record { properties = Some []; graph = Some a.graph; offsets = Some a.offsets }

-- a call on this file failed, or memory ran out
abbrev pub IsStoppedAt : Output → Status → Type 0
IsStoppedAt o status = (status ≡ WriteFault o) ⊎ (status ≡ Memory)

-- no file but the one of this name has changed
abbrev pub StayBeside : List ℕ → Files → Files → Type 0
StayBeside name old new = (q : List ℕ) → q ≢ name → map.get new q ≡ map.get old q

-- Calls on the file of this name, which is an output of a job, were done, or stopped the job.
pub record Touches (o : Output) (name : List ℕ) (told : Bool) (files files' : Files)
    (counts counts' : List ℕ → Counts) (result : Result (Unit {0}) Ending) : Type 0 where
  -- no other file has changed
  pub others : IsTrue told → StayBeside name files files'
  -- this file or memory alone can stop them
  pub only : IfErr result (λ e. IsStoppedAt o e.status)
  -- a fault is reported only if the count of the file rose
  pub cause : status_in result ≡ WriteFault o → IncreasedAt (λ c. c.write_faults) (Some name) counts counts'
  -- and so is out of memory
  pub memory : status_in result ≡ Memory → IncreasedAt (λ c. c.wants) (Some name) counts counts'
  -- no count of the depot falls
  pub later : NonDecreasing counts counts'

abbrev pub TouchesBy : {D : Type 0} → depot.Ghosts D → Output → List ℕ → D → D → Result (Unit {0}) Ending → Type 0
TouchesBy d o name before after result =
    Touches o name d.told (d.files before) (d.files after) (d.counts before) (d.counts after) result

-- a call on one of the files failed, or memory ran out
abbrev pub IsStopped : Status → Type 0
IsStopped status = ((o : Output) × (status ≡ WriteFault o)) ⊎ (status ≡ Memory)

-- What stands once the job has ended so. A fault names the file that it stopped at; memory may run out anywhere; and
-- nothing has changed if it was refused or its input could not be read.
abbrev pub FilesAfter : Archive → ArchiveFiles → ArchiveFiles → Status → Type 0
FilesAfter a old new Done = AreWhole a new
FilesAfter a old new (WriteFault output.Out) = AreWhole a new
FilesAfter a old new (WriteFault output.Properties) = StopAtProperties a old new
FilesAfter a old new (WriteFault output.Graph) = StopAtGraph a old new
FilesAfter a old new (WriteFault output.Offsets) = StopAtOffsets a old new
FilesAfter a old new Memory =
    StopAtProperties a old new ⊎ StopAtGraph a old new ⊎ StopAtOffsets a old new ⊎ AreWhole a new
FilesAfter a old new _ = new ≡ old

-- a fault of one of these files is reported only if the count of that file rose
abbrev pub FaultsRose : List ℕ → (List ℕ → Counts) → (List ℕ → Counts) → Status → Type 0
FaultsRose base old new status = (o : Output) → status ≡ WriteFault o
    → IncreasedAt (λ c. c.write_faults) (archive_named base o) old new

-- What stands of the file of a certificate once the job has ended so. It is as before, or lacks something, if a call
-- on it failed; it is whole before anything is printed.
abbrev pub CertificateAfter : List ℕ → Option (List ℕ) → Option (List ℕ) → Status → Type 0
CertificateAfter text old new Done = new ≡ Some text
CertificateAfter text old new (WriteFault output.Out) = new ≡ Some text
CertificateAfter text old new (WriteFault output.Certificate) = (new ≡ old) ⊎ HoldsLess new text
CertificateAfter text old new Memory = (new ≡ old) ⊎ HoldsFront new text
CertificateAfter text old new _ = new ≡ old

-- The files of a job of these names that writes this, or nothing.
abbrev pub HasFiles : (Output → Option (List ℕ)) → Option Written → Files → Files → Status → Type 0
HasFiles names None old new status = new ≡ old
HasFiles names (Some (an_archive a)) old new status = OthersStay names old new
    × FilesAfter a (archive_at names old) (archive_at names new) status
HasFiles names (Some (a_certificate text)) old new status =
    OthersStay names old new
    × CertificateAfter text (content_of old (names output.Certificate)) (content_of new (names output.Certificate))
    status

-- The files of these names hold all of this, or there is nothing to hold.
abbrev pub AreAllWhole : (Output → Option (List ℕ)) → Option Written → Files → Type 0
AreAllWhole names None files = Unit {0}
AreAllWhole names (Some (an_archive a)) files = AreWhole a (archive_at names files)
AreAllWhole names (Some (a_certificate text)) files = content_of files (names output.Certificate) ≡ Some text
