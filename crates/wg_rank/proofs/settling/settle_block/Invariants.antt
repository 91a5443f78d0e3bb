use Rattle.std.proofs.Common.{ℕ, ◌≡◌, ◌+◌, ◌<◌, ◌≤◌, get_or, length, min}
use Rattle.wg_rank.specs.Inflows.{low_flows, high_flows}
use Rattle.wg_rank.specs.Settling.{low_of, high_of}
use Rattle.wg_rank.proofs.settling.settle_block.Given as goal

abbrev pub invariant-loop-i : goal.invariant-loop-i
invariant-loop-i l = let n = length l.fn.low in record {
  low_before : (v : ℕ) → v < l.from → get_or l.low v 0 ≡ get_or l.fn.low v 0;
  low : (i : ℕ) → i < l.i → get_or l.low (l.from + i) 0 ≡ low_of l.parts n (l.from + i) (get_or (low_flows l.block) i 0);
  high_before : (v : ℕ) → v < l.from → get_or l.high v 0 ≡ get_or l.fn.high v 0;
  high : (i : ℕ) → i < l.i → get_or l.high (l.from + i) 0
      ≡ min (get_or l.fn.high (l.from + i) 0) (high_of l.parts n (l.from + i) (get_or (high_flows l.block) i 0));
  high_left : (v : ℕ) → l.from + l.i ≤ v → get_or l.high v 0 ≡ get_or l.fn.high v 0;
}
