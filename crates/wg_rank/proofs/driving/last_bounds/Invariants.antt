use Rattle.std.proofs.Common.{◌≡◌, length}
use Rattle.wg_rank.specs.Intervals.{AreBoundsOf}
use Rattle.wg_rank.proofs.driving.last_bounds.Given as goal

-- the bounds are those of the graph after the rounds so far
abbrev pub invariant-loop : goal.invariant-loop
invariant-loop g l = let graph = g.G.Gather.graph l.fn.source in record {
  same : g.G.Gather.graph l.source ≡ graph;
  pages : length l.bounds.low ≡ graph.nodes;
  after : l.bounds.rounds ≡ l.counter;
  damped : l.bounds.damping ≡ l.fn.bounds.damping;
  weighed : l.bounds.weights ≡ l.fn.bounds.weights;
  holds : AreBoundsOf l.bounds graph;
}
