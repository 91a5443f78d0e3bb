use Rattle.std.proofs.Common.{◌≡◌, length, take}
use Rattle.wg_graph.specs.Digraph.{Digraph}
use Rattle.wg_transpose.specs.SoFar.{onward, ArePrefixes, IsListOf}
use Rattle.wg_shape.specs.Classes.{reached_by, reached_below}
use Rattle.wg_shape.proofs.Reached.{with_arcs}
use Rattle.wg_shape.proofs.placing.place_page.Given as goal

abbrev pub invariant-loop-target : goal.invariant-loop-target
invariant-loop-target l =
    (g : Digraph) → IsListOf g l.page l.list → length l.classes ≡ g.nodes
    → ArePrefixes (length l.fn.ends) (onward l.from (reached_by g l.classes)) (onward l.from (reached_below g l.classes l.page)) l.fn.ends l.fn.all
    → ArePrefixes (length l.fn.ends) (onward l.from (reached_by g l.classes)) (onward l.from (with_arcs g l.classes l.page (take l.target-index l.list))) l.ends l.all
