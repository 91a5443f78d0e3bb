use Rattle.std.specs.List.{count_by, range_with_len}
use Rattle.std.proofs.Common.{◌≡◌, ◌≤◌, true, []}
use Rattle.wg_order.specs.Summary.{is_sure}
use Rattle.wg_order.proofs.summary.count_sure.Given as goal

-- the pages so far are counted
abbrev pub invariant-loop-v : goal.invariant-loop-v
invariant-loop-v l = record {
  counted : l.sure ≡ count_by (is_sure (record { filled = true; low = l.low; high = l.high; pages = [] })) (range_with_len 0 l.v);
  few : l.sure ≤ l.v;
}
