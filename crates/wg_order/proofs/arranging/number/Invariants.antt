use Rattle.std.proofs.Common.{ℕ, ◌≡◌, ◌<◌, get_or}
use Rattle.wg_order.proofs.arranging.number.Given as goal

abbrev pub invariant-loop-v : goal.invariant-loop-v
invariant-loop-v l = (k : ℕ) → k < l.v → get_or l.pages k 0 ≡ k
