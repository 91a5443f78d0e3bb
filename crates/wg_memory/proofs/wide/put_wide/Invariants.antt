use Rattle.std.proofs.Common.{◌≡◌, ◌<◌, ℕ, length, get_or}
use Rattle.wg_memory.specs.Ranking.{wide_at}
use Rattle.wg_memory.proofs.wide.put_wide.Given as goal

-- the first numbers stand in the array
abbrev pub invariant-loop-v : goal.invariant-loop-v
invariant-loop-v l = record {
  long : length l.words ≡ length l.fn.words;
  each : (u : ℕ) → u < l.v → wide_at l.words u ≡ get_or l.fn.numbers u 0;
}
