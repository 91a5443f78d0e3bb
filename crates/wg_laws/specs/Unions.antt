-- What is proved of the archive of a union.
use Rattle.std.specs.Prelude.{◌≡◌, ℕ, List, Option}
use Rattle.wg_params.specs.Parameters.{IsWithinLimits, params_of}
use Rattle.wg_graph.specs.Digraph.{Digraph}
use Rattle.wg_shape.specs.Graphs.{IsUnion}
use Rattle.wg_arcs.specs.Text.{text_of_graph}
use Rattle.wg_words.specs.Jobs.{writing}
use Rattle.wg_words.specs.declared.jobs.Job.TheVariants.{Arcs, Check}
use Rattle.wg_words.specs.declared.jobs.Origin.TheVariants.{Union}
use Rattle.wg_params.specs.declared.layout.Layout.{Layout}
use Rattle.wg_outcomes.specs.Judged.{accepted, built}
use Rattle.wg_greedy.specs.Archive.{Archive}
use Rattle.wg_outcomes.specs.Ranked.{HoldGraph}
use Rattle.wg_outcomes.specs.Readings.{Readings}
use Rattle.wg_outcomes.specs.Second.{second_held}
use Rattle.wg_outcomes.specs.declared.status.Input.{Input}
use Rattle.wg_laws.specs.Built.{holding}
use Rattle.wg_outcomes.specs.Commands.{judged}

-- What a union comes to is accepted with its line, and its graph is the union of those of the archives that were read.
pub record IsAcceptedUnion (r : Readings) (held : Input → Option (List ℕ)) (first second output : List ℕ)
    (a : Archive) (out : List ℕ) : Type 0 where
  pub one : Digraph
  pub other : Digraph
  pub both : Digraph
  pub stored_first : HoldGraph r held one
  pub stored_second : HoldGraph r (second_held held) other
  pub union : IsUnion one other both
  pub written : HoldGraph r (holding a) both
  pub first_arcs : judged r (Arcs first) held ≡ accepted (text_of_graph one)
  pub second_arcs : judged r (Arcs second) (second_held held) ≡ accepted (text_of_graph other)
  pub arcs : judged r (Arcs output) (holding a) ≡ accepted (text_of_graph both)
  pub check : judged r (Check output) (holding a) ≡ accepted out

-- It does for each two archives that are read and each layout within the limits.
abbrev pub UnionsAreAccepted : Readings → Type 0
UnionsAreAccepted r =
    (first second output : List ℕ) (layout : Layout) (held : Input → Option (List ℕ)) (a : Archive) (out : List ℕ)
    → IsWithinLimits (params_of layout 0 0) → judged r (writing output layout (Union first second)) held ≡ built a out
    → IsAcceptedUnion r held first second output a out
