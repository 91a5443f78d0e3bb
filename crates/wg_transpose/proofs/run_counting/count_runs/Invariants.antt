use Rattle.std.proofs.Common.{take}
use Rattle.wg_graph.specs.Digraph.{Digraph}
use Rattle.wg_transpose.specs.SoFar.{IsListOf}
use Rattle.wg_transpose.proofs.Seen.{with_page}
use Rattle.wg_transpose.specs.Held.{runs_below, AreCounted}
use Rattle.wg_transpose.proofs.RunSteps.{runs_of}
use Rattle.wg_transpose.proofs.run_counting.count_runs.Given as goal

abbrev pub invariant-loop-target : goal.invariant-loop-target
invariant-loop-target l =
    (g : Digraph) → IsListOf g l.page l.list → AreCounted g.nodes (runs_below g l.page) l.fn.counts l.fn.reach
    → AreCounted g.nodes (runs_of (with_page g l.page (take l.target-index l.list))) l.counts l.reach
