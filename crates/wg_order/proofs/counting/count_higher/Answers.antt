use Rattle.std.proofs.Common.{arith, rules, ◌≡◌, length, nat_lt, sym}
use Rattle.std.proofs.lemmas.List.Sorted.{IsPartitionPoint-from_clause}
use Rattle.wg_order.proofs.Counts.{count_partition, falling_parts, none_above}
use Rattle.wg_order.proofs.counting.count_higher.Goals as goal
use Rattle.wg_order.proofs.counting.count_higher.Goals.{then-is_empty-via-then-is_empty, then-is_empty-via-else-is_empty+then-bounds-x}

pub returns : goal.returns
returns c =
    sym (count_partition (λ l. nat_lt c.args.x l) c.args.bounds.now c.partition_point.result c.partition_point.ensures.bound
    (IsPartitionPoint-from_clause (λ l. nat_lt c.args.x l) _ _ c.partition_point.ensures.partitioned
    (falling_parts (λ l. l) c.args.bounds.now c.args.x c.requires) (λ a r q k. search rules)))

pub returns-then-is_empty : goal.returns-then-is_empty
returns-then-is_empty c =
    sym (none_above (λ l. l) c.args.bounds.now c.args.x c.requires
    (λ some. elim c.then-is_empty.branch [
      | then-is_empty-via-then-is_empty w ↦ let none : length c.args.bounds.now ≡ 0 = search rules in absurd (omega (arith, some, none))
      | then-is_empty-via-else-is_empty+then-bounds-x w ↦ omega (arith, w.if-bounds-x.true)
    ]))
