use Rattle.std.proofs.Common.{◌≡◌, ◌/◌, get_or, length}
use Rattle.wg_graph.specs.Digraph.{outdegree}
use Rattle.wg_rank.proofs.Flow.{Gathered, Dangling}
use Rattle.wg_rank.proofs.gathering.gather_low.Given as goal

abbrev pub invariant-loop-u : goal.invariant-loop-u
invariant-loop-u g l = record {
  same : g.L.Lists.graph l.lists ≡ g.L.Lists.graph l.fn.lists;
  place : g.L.Lists.place l.lists ≡ l.u;
  flow : Gathered (g.L.Lists.graph l.fn.lists) (length l.low) l.u (λ u. get_or l.low u 0 / outdegree (g.L.Lists.graph l.fn.lists) u) l.inflows;
  rest : Dangling (g.L.Lists.graph l.fn.lists) l.u (λ u. get_or l.low u 0) l.dangling;
}
