-- What is said of an archive that was built.
use Rattle.std.specs.Prelude.{◌≡◌, ℕ, ◌≤◌, List, length, Option, Some, None}
use Rattle.wg_outside.specs.declared.limits.TheConstants.{MOST_BYTES}
use Rattle.wg_params.specs.Parameters.{Parameters, IsWithinLimits, params_of}
use Rattle.wg_graph.specs.Digraph.{Digraph, IsGraph, arc_count}
use Rattle.wg_graph.specs.Arcs.{has_arc}
use Rattle.wg_offsets.specs.Words.{places_of}
use Rattle.wg_greedy.specs.Archive.{Archive, graph_bits, offset_values}
use Rattle.wg_num.specs.Lines.{lines_of}
use Rattle.wg_arcs.specs.Reading.{arcs_in}
use Rattle.wg_arcs.specs.Text.{text_of_arcs, text_of_graph}
use Rattle.wg_ascii.specs.Laws.{HaveSameWords}
use Rattle.wg_ascii.specs.Text as plain
use Rattle.wg_words.specs.Jobs.{writing}
use Rattle.wg_words.specs.declared.jobs.Job.TheVariants.{Check, Arcs, Ascii, Offsets, Show, Rank}
use Rattle.wg_words.specs.declared.jobs.Origin.TheVariants.{Build, Import, Recode, Transpose}
use Rattle.wg_words.specs.declared.jobs.RankJob.{RankJob}
use Rattle.wg_params.specs.declared.layout.Layout.{Layout}
use Rattle.wg_outcomes.specs.Readings.{Readings}
use Rattle.wg_outcomes.specs.Ranked.{HoldGraph, bounds_for, text_for}
use Rattle.wg_outcomes.specs.Written.{greedy_archive}
use Rattle.wg_outcomes.specs.Judged.{accepted, built, with_pages}
use Rattle.wg_outcomes.specs.Commands.{judged, number_lines, ok_line, successors_lines}
use Rattle.wg_outcomes.specs.declared.status.Input.{Input}
use Rattle.wg_outcomes.specs.declared.status.Input.TheVariants as input

-- what the inputs of an archive hold
abbrev pub holding : Archive → Input → Option (List ℕ)
holding a input.Properties = Some a.properties
holding a input.Graph = Some a.graph
holding a input.Offsets = Some a.offsets
holding a input.SecondProperties = None
holding a input.SecondGraph = None
holding a input.SecondOffsets = None
holding a input.ArcList = None
holding a input.Weights = None
holding a input.Certificate = None
holding a input.Text = None
holding a input.Map = None

-- The greedy archive of a graph within the limits is accepted, and its arcs, ASCIIGraph text, places and ranking are
-- those of the graph.
pub record IsAcceptedAs (r : Readings) (p : Parameters) (g : Digraph) (base : List ℕ) : Type 0 where
  pub check : judged r (Check base) (holding (greedy_archive p g)) ≡ accepted
      (ok_line p (length (graph_bits p g.lists)))
  pub arcs : judged r (Arcs base) (holding (greedy_archive p g)) ≡ accepted (text_of_graph g)
  pub ascii : judged r (Ascii base) (holding (greedy_archive p g)) ≡ accepted (plain.text_of_graph g)
  pub offsets : judged r (Offsets base) (holding (greedy_archive p g)) ≡ accepted
      (number_lines (places_of (offset_values p g.lists)))
  pub show : (pages : List ℕ)
      → judged r (Show base pages) (holding (greedy_archive p g)) ≡ with_pages g.nodes pages
      (λ all. accepted (successors_lines g.lists pages))
  pub rank : (job : RankJob) → job.weights ≡ None → job.certificate ≡ None
      → judged r (Rank job) (holding (greedy_archive p g)) ≡ accepted
      (text_for r job (bounds_for job g None))

abbrev pub BuiltAreAccepted : Readings → Type 0
BuiltAreAccepted r = (p : Parameters) (g : Digraph) (base : List ℕ) → IsWithinLimits p → IsGraph g → p.nodes ≡ g.nodes
    → p.arcs ≡ arc_count g → IsAcceptedAs r p g base

-- What a build comes to is accepted with the line of the build, and has the arcs that the list holds.
pub record IsAcceptedBuild (r : Readings) (held : Input → Option (List ℕ)) (base : List ℕ) (a : Archive)
    (out : List ℕ) : Type 0 where
  pub check : judged r (Check base) (holding a) ≡ accepted out
  pub arcs : (bytes : List ℕ) → held input.ArcList ≡ Some bytes
      → judged r (Arcs base) (holding a) ≡ accepted (text_of_arcs (arcs_in (lines_of bytes)))

-- It does for each list and each layout within the limits.
abbrev pub BuildsAreAccepted : Readings → Type 0
BuildsAreAccepted r =
    (list_name base : List ℕ) (nodes : ℕ) (layout : Layout) (held : Input → Option (List ℕ)) (a : Archive)
    (out : List ℕ)
    → IsWithinLimits (params_of layout nodes 0) → judged r (writing base layout (Build list_name nodes)) held ≡ built a out
    → IsAcceptedBuild r held base a out

-- What an import comes to is accepted with its line, and its ASCIIGraph text has the words of the text that was read,
-- line by line.
pub record IsAcceptedImport (r : Readings) (held : Input → Option (List ℕ)) (base : List ℕ) (a : Archive)
    (out : List ℕ) : Type 0 where
  pub check : judged r (Check base) (holding a) ≡ accepted out
  pub ascii : (bytes : List ℕ) → held input.Text ≡ Some bytes
      → (text : List ℕ) × (judged r (Ascii base) (holding a) ≡ accepted text)
      × HaveSameWords (lines_of bytes) (lines_of text)

-- It does for each text and each layout within the limits; and to import the ASCIIGraph text of an archive, if a file
-- may be so long, is to recode the archive.
pub record ImportsAreAccepted (r : Readings) : Type 0 where
  pub import : (name base : List ℕ) (layout : Layout) (held : Input → Option (List ℕ)) (a : Archive) (out : List ℕ)
      → IsWithinLimits (params_of layout 0 0) → judged r (writing base layout (Import name)) held ≡ built a out
      → IsAcceptedImport r held base a out
  pub back : (base output name text : List ℕ) (layout : Layout) (held after : Input → Option (List ℕ))
      → judged r (Ascii base) held ≡ accepted text → length text ≤ MOST_BYTES → after input.Text ≡ Some text
      → judged r (writing output layout (Import name)) after ≡ judged r (writing output layout (Recode base)) held

-- What a recoding comes to is accepted with its line, and its graph is the graph that was read; so it has the same arcs.
pub record IsAcceptedRecoding (r : Readings) (held : Input → Option (List ℕ)) (input output : List ℕ) (a : Archive)
    (out : List ℕ) : Type 0 where
  pub graph : Digraph
  pub stored : HoldGraph r held graph
  pub written : HoldGraph r (holding a) graph
  pub check : judged r (Check output) (holding a) ≡ accepted out
  pub arcs : judged r (Arcs output) (holding a) ≡ judged r (Arcs input) held

-- What a transposing comes to is accepted with its line, and its graph has exactly the arcs of the graph that was read,
-- each the other way round; to transpose it again is to recode the archive that was read.
pub record IsAcceptedTransposing (r : Readings) (held : Input → Option (List ℕ)) (input output : List ℕ) (a : Archive)
    (out : List ℕ) : Type 0 where
  pub graph : Digraph
  pub turned : Digraph
  pub stored : HoldGraph r held graph
  pub nodes : turned.nodes ≡ graph.nodes
  pub proper : IsGraph turned
  pub reversed : (u v : ℕ) → has_arc turned v u ≡ has_arc graph u v
  pub written : HoldGraph r (holding a) turned
  pub arcs : judged r (Arcs output) (holding a) ≡ accepted (text_of_graph turned)
  pub check : judged r (Check output) (holding a) ≡ accepted out
  pub back : (third : List ℕ) (layout : Layout)
      → judged r (writing third layout (Transpose output)) (holding a) ≡ judged r (writing third layout (Recode input)) held

-- They do for each archive that is read and each layout within the limits.
pub record ConversionsAreAccepted (r : Readings) : Type 0 where
  pub recode : (input output : List ℕ) (layout : Layout) (held : Input → Option (List ℕ)) (a : Archive) (out : List ℕ)
      → IsWithinLimits (params_of layout 0 0) → judged r (writing output layout (Recode input)) held ≡ built a out
      → IsAcceptedRecoding r held input output a out
  pub transpose : (input output : List ℕ) (layout : Layout) (held : Input → Option (List ℕ)) (a : Archive)
      (out : List ℕ)
      → IsWithinLimits (params_of layout 0 0) → judged r (writing output layout (Transpose input)) held ≡ built a out
      → IsAcceptedTransposing r held input output a out
