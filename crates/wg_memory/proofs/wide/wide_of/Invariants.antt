use Rattle.std.proofs.Common.{◌≡◌, ◌<◌, ℕ, length, get_or}
use Rattle.wg_memory.specs.Ranking.{wide_at}
use Rattle.wg_memory.proofs.wide.wide_of.Given as goal

-- the first numbers of the array
abbrev pub invariant-loop-v : goal.invariant-loop-v
invariant-loop-v l = record {
  many : length l.numbers.items ≡ l.v;
  each : (u : ℕ) → u < l.v → wide_at l.fn.words u ≡ get_or l.numbers.items u 0;
}
