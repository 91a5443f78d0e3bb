use Rattle.std.proofs.Common.{ℕ, ◌≡◌, ◌<◌, [], get_or}
use Rattle.wg_rank.specs.Sum.{sum_below}
use Rattle.wg_rank.specs.Intervals.{by_page}
use Rattle.wg_rank.specs.Lanes.{in_lanes}
use Rattle.wg_rank.specs.Pulling.{low_share, high_share, given}
use Rattle.wg_rank.proofs.Flow.{Dangling}
use Rattle.wg_rank.proofs.pulling.share_out.Given as goal

abbrev pub invariant-loop-u : goal.invariant-loop-u
invariant-loop-u a l = record {
  each : (w : ℕ) → w < l.u → get_or l.lanes w []
      ≡ a.T.Along.lane (given l.arcs (low_share l.arcs (by_page l.low))) (given l.arcs (high_share l.arcs (by_page l.high))) w;
  total : l.total ≡ in_lanes (sum_below l.u) (given l.arcs (low_share l.arcs (by_page l.low))) (given l.arcs (high_share l.arcs (by_page l.high)));
  low_rest : Dangling l.arcs l.u (λ u. get_or l.low u 0) l.low_dangling;
  high_rest : Dangling l.arcs l.u (λ u. get_or l.high u 0) l.high_dangling;
}
