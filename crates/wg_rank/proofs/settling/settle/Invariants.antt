use Rattle.std.proofs.Common.{ℕ, ◌≡◌, ◌-◌, ◌<◌, ◌≤◌, get_or, length, min}
use Rattle.wg_rank.specs.Rank.{low_flow, high_flow}
use Rattle.wg_rank.specs.Intervals.{by_page}
use Rattle.wg_rank.specs.Settling.{settled_lows, settled_highs}
use Rattle.wg_rank.specs.Weights.{weights_or_ones}
use Rattle.wg_rank.proofs.settling.settle.Given as goal

abbrev pub invariant-rest : goal.invariant-rest
invariant-rest g l =
    let graph = g.G.Gather.graph l.source in
    let n = length l.fn.low in
    let w : ℕ → ℕ = by_page (weights_or_ones n l.weights) in
    record {
      low : (f h : ℕ → ℕ) → g.G.Gather.has_shared l.source l.inflows f h → (v : ℕ) → v < l.from
          → get_or l.low v 0 ≡ settled_lows l.damping n l.fn.dangling.0 w (low_flow graph f) v;
      high : (f h : ℕ → ℕ) → g.G.Gather.has_shared l.source l.inflows f h → (v : ℕ) → v < l.from
          → get_or l.high v 0 ≡ min (get_or l.fn.high v 0) (settled_highs l.damping n l.fn.dangling.1 w (high_flow graph h) v);
      left : (v : ℕ) → l.from ≤ v → get_or l.high v 0 ≡ get_or l.fn.high v 0;
    }

abbrev pub decreases-rest : goal.decreases-rest
decreases-rest g l = length l.low - l.from
