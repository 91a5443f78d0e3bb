use Rattle.std.proofs.Common.{◌≡◌, ◌/◌, get_or, length}
use Rattle.wg_graph.specs.Digraph.{outdegree}
use Rattle.std.specs.Int.{div_ceil}
use Rattle.wg_rank.specs.Inflows.{low_flows, high_flows}
use Rattle.wg_rank.proofs.Flow.{Gathered, Dangling}
use Rattle.wg_rank.proofs.gathering.AnyGather.share.Given as goal

abbrev pub invariant-loop-u : goal.invariant-loop-u
invariant-loop-u g l = record {
  same : g.L.Lists.graph l.self ≡ g.L.Lists.graph l.fn.self;
  place : g.L.Lists.place l.self ≡ l.u;
  low : Gathered (g.L.Lists.graph l.fn.self) (length l.low) l.u (λ u. get_or l.low u 0 / outdegree (g.L.Lists.graph l.fn.self) u) (low_flows l.inflows);
  high : Gathered (g.L.Lists.graph l.fn.self) (length l.low) l.u (λ u. div_ceil (get_or l.high u 0) (outdegree (g.L.Lists.graph l.fn.self) u)) (high_flows l.inflows);
  low_rest : Dangling (g.L.Lists.graph l.fn.self) l.u (λ u. get_or l.low u 0) l.low_dangling;
  high_rest : Dangling (g.L.Lists.graph l.fn.self) l.u (λ u. get_or l.high u 0) l.high_dangling;
}
