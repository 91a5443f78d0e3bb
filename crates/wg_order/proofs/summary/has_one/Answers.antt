use Rattle.std.proofs.Common.{arith, ℕ, ◌+◌, ◌-◌, nat_eq, nat_lt, length, ap, ◌∙◌}
use Rattle.std.specs.List.{count_by}
use Rattle.std.proofs.lemmas.List.Sums.{count_by-le-length}
use Rattle.std.proofs.lemmas.List.Sorted.{length_permutation}
use Rattle.wg_rank.specs.Intervals.{by_page}
use Rattle.wg_order.proofs.Counts.{count_permutation}
use Rattle.wg_order.proofs.summary.has_one.Goals as goal

pub overflow_sub-result : goal.overflow_sub-result
overflow_sub-result c =
    omega (
      arith,
      c.count_below.ensures,
      c.requires.high_pages,
      count_by-le-length (λ h. nat_lt h (by_page c.args.low.now c.args.v)) c.args.rising.now,
      length_permutation c.args.high.now c.args.rising.now c.requires.rising.all,
    )

pub returns : goal.returns
returns c =
    let n : ℕ = length c.args.low.now in
    let above = λ (l : ℕ). nat_lt (by_page c.args.high.now c.args.v) l in
    let below = λ (h : ℕ). nat_lt h (by_page c.args.low.now c.args.v) in
    ap (λ k. nat_eq (1 + k) (n - c.count_below.result))
    (c.count_higher.ensures ∙ count_permutation above c.args.low.now c.args.falling.now c.requires.falling.all)
    ∙ ap (λ k. nat_eq (1 + count_by above c.args.low.now) (n - k)) (c.count_below.ensures ∙ count_permutation below c.args.high.now c.args.rising.now c.requires.rising.all)
