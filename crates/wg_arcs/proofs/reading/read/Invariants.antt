use Rattle.std.proofs.Common.{◌≡◌, ◌≤◌, ◌+◌, ◌++◌, [], length}
use Rattle.wg_num.specs.Lines.{lines_of}
use Rattle.wg_graph.specs.Arcs.{arcs_of}
use Rattle.wg_arcs.specs.Growing.{Begins, IsUpTo}
use Rattle.wg_arcs.proofs.reading.read.Given as goal

abbrev pub invariant-lines : goal.invariant-lines
invariant-lines l = record {
  nodes : l.builder.nodes ≡ l.n;
  begun : Begins l.builder.nodes l.builder.lists;
  known : l.reading.nodes ≡ l.n;
  few : l.reading.line + length l.rest ≤ length l.fn.bytes;
  up : IsUpTo (lines_of l.fn.bytes) (lines_of l.rest ++ []) (arcs_of l.builder) l.reading;
}

abbrev pub decreases-lines : goal.decreases-lines
decreases-lines l = length l.rest
