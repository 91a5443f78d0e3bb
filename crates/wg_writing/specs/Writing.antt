-- An archive in memory, on its way into its files.
use Rattle.std.specs.Prelude.{◌≡◌, ℕ, Bool, List, Some, Result, IsTrue, OnOk, IfErr}
use Rattle.wg_outside.specs.Outside.{Files, Counts, NonDecreasing}
use Rattle.wg_outside.specs.Suffixes.{properties_name, graph_name, offsets_name}
use Rattle.wg_outside.specs.declared.depot.Depot as depot
use Rattle.wg_params.specs.Parameters.{Parameters}
use Rattle.wg_params.specs.declared.layout.Layout.{Layout}
use Rattle.wg_properties.specs.Text.{text_of}
use Rattle.wg_graph.specs.Digraph.{Digraph}
use Rattle.wg_greedy.specs.Archive.{Archive}
use Rattle.wg_encoder.specs.ArchiveInMemory.{Summarized, encoded}
use Rattle.wg_outcomes.specs.Answers.{status_in}
use Rattle.wg_outcomes.specs.Names.{archive_named}
use Rattle.wg_outcomes.specs.Written.{ArchiveFiles, FaultsRose, FilesAfter, IsStopped, OthersStay, archive_in, params_for}
use Rattle.wg_outcomes.specs.declared.ending.Ending.{Ending}
use Rattle.wg_writing.specs.declared.writing.FileNames.{FileNames}

-- the greedy archive of a graph with these parameters, in memory
abbrev pub archive_of : Parameters → Digraph → Summarized
archive_of p g = encoded p (text_of p) g.lists

-- the parameters of a graph in this layout, and its archive
abbrev pub IsArchiveOf : Layout → Digraph → Parameters × Summarized → Type 0
IsArchiveOf l g made = (made.0 ≡ params_for l g) × (made.1 ≡ archive_of made.0 g)

-- the names of an archive's files
abbrev pub names_of : List ℕ → FileNames
names_of base = record { properties = properties_name base; graph = graph_name base; offsets = offsets_name base }

-- the three files, if they hold all of the archive
abbrev pub whole : Archive → ArchiveFiles
whole a = record { properties = Some a.properties; graph = Some a.graph; offsets = Some a.offsets }

-- Steps on the way of this archive into its files, which stood as `first` before the first of them: they were done, and
-- the files stand as `reached`, or one of them stopped the job.
pub record WritesFiles (a : Archive) (base : List ℕ) (first reached : ArchiveFiles) (told : Bool)
    (files files' : Files) (counts counts' : List ℕ → Counts) (result : Result (Unit {0}) Ending) : Type 0 where
  pub ok : IsTrue told → OnOk result (archive_in base files' ≡ reached)
  -- after an error they stand as its status tells
  pub err : IsTrue told → IfErr result (λ e. FilesAfter a first (archive_in base files') e.status)
  -- no other file has changed
  pub others : IsTrue told → OthersStay (archive_named base) files files'
  -- one of the files or memory alone can stop it
  pub only : IfErr result (λ e. IsStopped e.status)
  -- a fault is reported only if the count of its file rose
  pub causes : FaultsRose base counts counts' (status_in result)
  -- no count of the depot falls
  pub later : NonDecreasing counts counts'

abbrev pub WritesFilesBy : {D : Type 0} → depot.Ghosts D → Archive → List ℕ → ArchiveFiles → ArchiveFiles → D → D
    → Result (Unit {0}) Ending → Type 0
WritesFilesBy d a base first reached before after result =
    WritesFiles a base first reached d.told (d.files before) (d.files after) (d.counts before) (d.counts after) result
