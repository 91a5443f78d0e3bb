-- What is proved of the archive of a quotient.
use Rattle.std.specs.Prelude.{◌≡◌, ℕ, ◌≤◌, List, Option, Some, Ok}
use Rattle.wg_params.specs.declared.limits.TheConstants.{MOST_PAGES}
use Rattle.wg_params.specs.Parameters.{IsWithinLimits, params_of}
use Rattle.wg_params.specs.declared.layout.Layout.{Layout}
use Rattle.wg_graph.specs.Digraph.{Digraph}
use Rattle.wg_shape.specs.Quotient.{IsQuotient}
use Rattle.wg_arcs.specs.Numbers.{numbers_of}
use Rattle.wg_arcs.specs.Text.{text_of_graph}
use Rattle.wg_words.specs.Jobs.{writing}
use Rattle.wg_words.specs.declared.jobs.Job.TheVariants.{Arcs, Check}
use Rattle.wg_words.specs.declared.jobs.Origin.TheVariants.{Quotient}
use Rattle.wg_greedy.specs.Archive.{Archive}
use Rattle.wg_outcomes.specs.Judged.{accepted, built}
use Rattle.wg_outcomes.specs.Ranked.{HoldGraph}
use Rattle.wg_outcomes.specs.Readings.{Readings}
use Rattle.wg_outcomes.specs.declared.status.Input.{Input}
use Rattle.wg_outcomes.specs.declared.status.Input.TheVariants as input
use Rattle.wg_outcomes.specs.Commands.{judged}
use Rattle.wg_laws.specs.Built.{holding}

-- What a quotient comes to is accepted with its line, and its graph is the quotient of the graph that was read, by the
-- classes that the map gives.
pub record IsAcceptedQuotient (r : Readings) (held : Input → Option (List ℕ)) (output : List ℕ) (count : ℕ)
    (a : Archive) (out : List ℕ) : Type 0 where
  pub graph : Digraph
  pub text : List ℕ
  pub classes : List ℕ
  pub quotient : Digraph
  pub stored : HoldGraph r held graph
  pub text_is : held input.Map ≡ Some text
  pub classes_are : numbers_of graph.nodes count text ≡ Ok classes
  pub quotient_is : IsQuotient graph classes count quotient
  pub written : HoldGraph r (holding a) quotient
  pub arcs : judged r (Arcs output) (holding a) ≡ accepted (text_of_graph quotient)
  pub check : judged r (Check output) (holding a) ≡ accepted out

-- It does for each archive and each map that are read, and each layout within the limits.
abbrev pub QuotientsAreAccepted : Readings → Type 0
QuotientsAreAccepted r =
    (input map output : List ℕ) (count : ℕ) (layout : Layout) (held : Input → Option (List ℕ)) (a : Archive)
    (out : List ℕ)
    → count ≤ MOST_PAGES → IsWithinLimits (params_of layout 0 0)
    → judged r (writing output layout (Quotient input map count)) held ≡ built a out
    → IsAcceptedQuotient r held output count a out
