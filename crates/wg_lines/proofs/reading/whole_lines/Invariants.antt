use Rattle.std.proofs.Common.{◌≢◌, ℕ, ◌<◌, ◌≤◌, length, get_or}
use Rattle.wg_lines.proofs.reading.whole_lines.Given as goal

-- no line ends behind
abbrev pub invariant-loop-index : goal.invariant-loop-index
invariant-loop-index l = (k : ℕ) → l.index ≤ k → k < length l.bytes → get_or l.bytes k 0 ≢ 10
