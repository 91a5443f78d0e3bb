-- The arcs of a graph file, counted at their targets while its records are validated.
use Rattle.std.specs.Prelude.{◌≡◌, ℕ, Bool, List, Ok, Err}
use Rattle.wg_params.specs.Parameters.{Parameters}
use Rattle.wg_graph.specs.Digraph.{Digraph}
use Rattle.wg_grammar.specs.Archive.{Accepted, ReadsGraph}
use Rattle.wg_grammar.specs.Laws.{accepted_graph}
use Rattle.wg_stream.specs.Sweeping.{greatest_outdegree}
use Rattle.wg_transpose.specs.Transposed.{predecessors}
use Rattle.wg_transpose.specs.SoFar.{AreCounts}
use Rattle.wg_transpose.specs.Transposing.{Transposing}
use Rattle.wg_outcomes.specs.Answers.{Steps}
use Rattle.wg_outcomes.specs.Judged.{with_digraph}
use Rattle.wg_outcomes.specs.Promised.{IsBadFile}
use Rattle.wg_outcomes.specs.Readings.{Readings}
use Rattle.wg_outcomes.specs.declared.ending.Ending.{Ending}
use Rattle.wg_outcomes.specs.declared.status.Input.TheVariants.{Graph}

-- What such a pass finds: the bits stand for a graph, this is its greatest outdegree, and so many arcs lead to each page.
pub record CountsArcs (p : Parameters) (bits : List Bool) (greatest : ℕ) (counts : List ℕ) : Type 0 where
  pub accepted : Accepted
  pub reads : ReadsGraph p bits (Ok accepted)
  pub greatest_is : greatest ≡ greatest_outdegree accepted.graph
  pub counted : AreCounts p.nodes (predecessors (accepted_graph p accepted)) counts

-- The graph of a graph file was validated, and the first range of the lists of the transposed graph is still to come.
pub record IsReversed (p : Parameters) (bytes : List ℕ) (t : Transposing) : Type 0 where
  pub none : t.to ≡ 0
  pub nodes : t.graph.nodes ≡ p.nodes
  pub goes : (r : Readings) → Steps (with_digraph r p bytes) (Ok t.graph)

-- or it ends the job
pub record IsGraphEnd (p : Parameters) (bytes : List ℕ) (e : Ending) : Type 0 where
  pub refused : (r : Readings) → Steps {B = Digraph} (with_digraph r p bytes) (Err e)
  pub only : IsBadFile Graph p.arcs e
