use Rattle.std.proofs.Common.{ℕ, ◌≡◌, ◌<◌, ◌≤◌, length, get_or, take, drop, sum}
use Rattle.wg_order.specs.Front.{count_lower}
use Rattle.wg_order.proofs.counting.count_at_last.Given as goal

abbrev pub invariant-loop-bound : goal.invariant-loop-bound
invariant-loop-bound l = record {
  size : length l.counts ≡ length l.pages;
  lower : (i : ℕ) → i < length l.pages → sum (drop i l.counts) ≡ count_lower l.low (take l.bound-index l.high) (get_or l.pages i 0);
  few : sum l.counts ≤ l.bound-index;
}
