use Rattle.std.proofs.Common.{ℕ, ◌≡◌, ◌+◌, ◌/◌, ◌^◌, ◌<◌, get_or, length}
use Rattle.wg_rank.proofs.divisor.Divisors.new.Given as goal

-- the inverses so far are kept
abbrev pub invariant-loop-by : goal.invariant-loop-by
invariant-loop-by l = record {
  long : length l.inverses ≡ 256;
  kept : (d : ℕ) → 0 < d → d < l.by → get_or l.inverses d 0 ≡ 2 ^ 63 / d + 1;
}
