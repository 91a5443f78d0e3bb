-- The files of an archive, as they are read in pieces.
use Rattle.std.specs.Prelude.{◌≡◌, ℕ, ◌≤◌, ◌++◌, Bool, true, List, [], Option, Some, Result, Ok, Err, IsTrue, OnOk, IfErr}
use Rattle.std.specs.FinMap as map
use Rattle.wg_outside.specs.Outside.{Files, Counts, NonDecreasing}
use Rattle.wg_outside.specs.declared.whole.LoadError.{LoadError}
use Rattle.wg_outside.specs.declared.whole.LoadError.TheVariants as load
use Rattle.wg_outside.specs.declared.suffixes.TheConstants.{GRAPH}
use Rattle.wg_params.specs.Parameters.{Parameters, IsWithinLimits}
use Rattle.wg_grammar.specs.Archive.{Accepted, lists_of, places_of}
use Rattle.wg_grammar.specs.Record.{Whole}
use Rattle.wg_grammar.specs.declared.error.ReadError.{ReadError}
use Rattle.wg_grammar.specs.declared.fault.ArchiveFault.{ArchiveFault}
use Rattle.wg_grammar.specs.declared.error.ReadError.TheVariants as pages
use Rattle.wg_stream.specs.declared.state.State.TheVariants.{Open}
use Rattle.wg_stream.specs.Reading.{Reading, IsInStep, IsJudged}
use Rattle.wg_outcomes.specs.Answers.{Steps, status_in}
use Rattle.wg_outcomes.specs.Causes.{HasCause}
use Rattle.wg_outcomes.specs.Judged.{Judged, with_file, with_graph}
use Rattle.wg_outcomes.specs.Promised.{IsStopAt}
use Rattle.wg_outcomes.specs.Names.{no_outputs}
use Rattle.wg_outcomes.specs.Readings.{Readings}
use Rattle.wg_outcomes.specs.declared.ending.Ending.{Ending}
use Rattle.wg_outcomes.specs.declared.status.Input.{Input}
use Rattle.wg_outcomes.specs.declared.status.Input.TheVariants as input
use Rattle.wg_outcomes.specs.declared.status.Status.{Status}
use Rattle.wg_outcomes.specs.declared.status.Status.TheVariants.{Memory, ReadFault, Missing, BadArchive, OverLimit}

-- goes on with the graph of what the graph file holds
abbrev pub graph_then : Readings → Parameters → Option (List ℕ) → (Accepted → Judged) → Judged
graph_then r p held next = with_file input.Graph held (λ bytes. with_graph r p bytes next)

-- the file is there, is not too long, and stands for this graph
pub record IsGraphFile (held : Option (List ℕ)) (p : Parameters) (a : Accepted) : Type 0 where
  pub file : List ℕ
  pub is : held ≡ Some file
  pub judged : IsJudged file p (Ok a)

-- the graph of so many records, the last of them first
abbrev pub accepted_of : List Whole → Accepted
accepted_of behind = record { graph = lists_of behind; places = places_of behind }

-- how a job ends at an error of an input
abbrev pub status_at : Input → LoadError → Status
status_at i load.Absent = Missing i
status_at i load.Failed = ReadFault i
status_at i load.TooLong = OverLimit i
status_at i load.Memory = Memory

-- how a job ends whose graph file is not read on, if the properties promise so many arcs
abbrev pub ending_at : ℕ → ReadError ArchiveFault LoadError → Ending
ending_at promised (pages.Fault f) = record { status = BadArchive f; promised = promised }
ending_at promised pages.Memory = record { status = Memory; promised = 0 }
ending_at promised (pages.Refused e) = record { status = status_at input.Graph e; promised = 0 }

-- a reading of the graph file of an archive, before its first page
pub record IsFresh (base : List ℕ) (p : Parameters) (r : Reading) : Type 0 where
  pub limits : IsWithinLimits p
  pub params : r.pages.params ≡ p
  pub name : r.name ≡ base ++ GRAPH.now
  pub state : r.state ≡ Open
  pub page : r.pages.page ≡ 0
  pub arcs : r.pages.arcs ≡ 0
  pub at : r.at ≡ 0
  pub looked : r.held.looked ≡ true → ⊥
  pub in_step : (file : List ℕ) → IsInStep file r []

-- once the reading has looked for its file, it is there
abbrev pub IsFound : Files → Reading → Type 0
IsFound files r = r.held.looked ≡ true → (file : List ℕ) × (map.get files r.name ≡ Some file)

-- if its file is there, the reading is in step with it
abbrev pub FollowsFile : Files → Reading → Type 0
FollowsFile files r = (file : List ℕ) → map.get files r.name ≡ Some file → (whole : List Whole) × IsInStep file r whole

-- A step of a reading of the graph file: what stays as it is, and what an error tells.
pub record Advances {B : Type 0} (told : Bool) (files files' : Files) (counts counts' : List ℕ → Counts)
    (p : Parameters) (old new : Reading) (result : Result B Ending) : Type 0 where
  pub params : new.pages.params ≡ old.pages.params
  pub name : new.name ≡ old.name
  pub onward : old.at ≤ new.at
  pub same : files' ≡ files
  pub later : NonDecreasing counts counts'
  pub only : IfErr result (λ e. IsStopAt input.Graph p.arcs e)
  pub causes : (names : Input → Option (List ℕ)) → names input.Graph ≡ Some old.name
      → HasCause names no_outputs counts counts' 0 0 (status_in result)
  pub there : IsTrue told → (held : Files) → files ≡ held → IsFound held old
      → OnOk result ((file : List ℕ) × (map.get held old.name ≡ Some file))
  pub refused : IsTrue told → IsWithinLimits p → (held : Files) → files ≡ held → IsFound held old → FollowsFile held old
      → (r : Readings) → IfErr result (λ e. Steps {B = Accepted} (graph_then r p (map.get held old.name)) (Err e))
