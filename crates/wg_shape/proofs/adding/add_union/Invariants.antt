use Rattle.std.proofs.Common.{◌≡◌, ◌+◌, ◌++◌, length}
use Rattle.wg_params.specs.declared.limits.TheConstants.{MOST_ARCS}
use Rattle.wg_graph.specs.Ascending.{Ascends}
use Rattle.wg_graph.specs.Digraph.{successors, arc_count}
use Rattle.wg_shape.specs.Added.{Added}
use Rattle.wg_shape.proofs.adding.add_union.Given as goal

abbrev pub invariant-numbers : goal.invariant-numbers
invariant-numbers g l = record {
  added : Added l.initial.numbers l.page (length (successors l.builder l.page)) l.fn.builder l.builder;
  parts : l.initial.numbers ≡ successors l.builder l.page ++ l.numbers;
  room : l.room + arc_count l.builder ≡ MOST_ARCS;
  ascends : Ascends 0 l.numbers → Ascends 0 l.initial.numbers;
}

abbrev pub decreases-numbers : goal.decreases-numbers
decreases-numbers g l = length l.numbers
