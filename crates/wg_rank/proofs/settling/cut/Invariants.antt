use Rattle.std.proofs.Common.{ℕ, ◌≡◌, ◌+◌, ◌<◌, ◌≤◌, get_or, min}
use Rattle.wg_rank.proofs.settling.cut.Given as goal

abbrev pub invariant-loop-v : goal.invariant-loop-v
invariant-loop-v l = record {
  done : (v : ℕ) → v < l.v → get_or l.high v 0 ≡ min (get_or l.fn.high v 0) (get_or l.low v 0 + l.gap);
  left : (v : ℕ) → l.v ≤ v → get_or l.high v 0 ≡ get_or l.fn.high v 0;
}
