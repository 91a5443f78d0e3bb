use Rattle.std.specs.Cmp.{IsStrictWeakOrder}
use Rattle.std.specs.Ordering.{is_lt, nat_cmp}
use Rattle.std.proofs.Common.{ℕ, Bool, rules}
use Rattle.std.proofs.lemmas.Cmp.{nat_cmp_total, back_total}
use Rattle.std.proofs.lemmas.List.Sorted.{sorted_far, ranks_by}
use Rattle.std.proofs.lemmas.Fn.{always_returns_same}
use Rattle.wg_order.proofs.Orders.{not_less}
use Rattle.wg_order.proofs.sorting.sort_falling.Goals as goal

pub returns : goal.returns
returns c =
    let lt : ℕ → ℕ → Bool = λ x y. is_lt (nat_cmp y x) in
    let order : IsStrictWeakOrder lt = ranks_by (back_total nat_cmp_total) (λ x. x) in
    record {
      all = rw c.copy_from_slice.ensures.after at c.sort_unstable_by.ensures.permutation;
      falls = λ i j l w.
          not_less _ _ (sorted_far lt order c.sort_unstable_by.new.self
          (c.sort_unstable_by.ensures.sorted lt order (always_returns_same _ _ _ (λ a r g h. search rules))) i j 0 l w);
    }
