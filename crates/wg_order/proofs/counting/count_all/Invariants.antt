use Rattle.std.proofs.Common.{◌≡◌, ◌≤◌, take, nat_lt, count_by}
use Rattle.wg_order.proofs.counting.count_all.Given as goal

abbrev pub invariant-loop-bound : goal.invariant-loop-bound
invariant-loop-bound l = (l.count ≡ count_by (λ b. nat_lt l.x b) (take l.bound-index l.bounds)) × (l.count ≤ l.bound-index)
