use Rattle.std.proofs.Common.{ℕ, ◌≡◌, ◌+◌, ◌*◌, ◌<◌, ◌≤◌, get_or, length}
use Rattle.wg_params.specs.declared.limits.TheConstants.{MOST_PAGES}
use Rattle.wg_rank.specs.Rank.{low_flow, high_flow}
use Rattle.wg_rank.specs.Inflows.{low_flows, high_flows}
use Rattle.wg_rank.specs.declared.limits.TheConstants.{UNITS}
use Rattle.wg_rank.proofs.settling.fill.Given as goal

abbrev pub invariant-loop-i : goal.invariant-loop-i
invariant-loop-i g l = let graph = g.G.Gather.graph l.source in record {
  pages : length (low_flows l.block) ≡ length (low_flows l.fn.block);
  low : (f h : ℕ → ℕ) → g.G.Gather.has_shared l.source l.inflows f h → (i : ℕ) → i < l.i
      → get_or (low_flows l.block) i 0 ≡ low_flow graph f (l.from + i);
  high : (f h : ℕ → ℕ) → g.G.Gather.has_shared l.source l.inflows f h → (i : ℕ) → i < l.i
      → get_or (high_flows l.block) i 0 ≡ high_flow graph h (l.from + i);
  low_room : (i : ℕ) → i < l.i → get_or (low_flows l.block) i 0 ≤ MOST_PAGES * UNITS;
  high_room : (i : ℕ) → i < l.i → get_or (high_flows l.block) i 0 ≤ MOST_PAGES * UNITS;
}
