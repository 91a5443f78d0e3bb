use Rattle.std.specs.List.{sum}
use Rattle.std.proofs.Common.{arith, rules, ℕ, ◌-◌, ◌<◌, ◌≤◌, ◌∙◌, List, nat_lt, length, get_or, drop, ap, refl}
use Rattle.std.proofs.lemmas.List.Sums.{count_by-le-length}
use Rattle.wg_rank.specs.Intervals.{by_page}
use Rattle.wg_order.proofs.Tallies.{counted, one_more, uncounted, within_sum, zeros}
use Rattle.wg_order.proofs.counting.count_at_last.Goals as goal
use Rattle.wg_order.proofs.counting.count_at_last.Goals.{then-above-gt0, else-above-gt0}

pub loop-bound-init : goal.loop-bound-init
loop-bound-init c =
    let none = zeros (length c.args.counts.now) in
    let is = c.fill.ensures.after (λ y h. search rules) in
    record {
      size = c.fill.ensures.len ∙ c.requires.places;
      lower = λ i w. none i c.fill.new.self is;
      few = omega (arith, none 0 c.fill.new.self is);
    }

pub overflow_add-counts : goal.overflow_add-counts
overflow_add-counts c =
    let l = c.loop-bound in
    let high = c.args.high.now in
    let above = c.count_above-above.result in
    let test = λ (u : ℕ). nat_lt (get_or high l.bound-index 0) (by_page c.args.low.now u) in
    let inside : above - 1 < length l.counts =
    omega (arith, l.invariant.size, c.count_above-above.ensures, c.if-above-gt0.true, count_by-le-length test c.args.pages.now) in
    omega (arith, within_sum l.counts (above - 1) inside, l.invariant.few, c.loop-bound-test.true)

pub loop-bound-preserved : goal.loop-bound-preserved
loop-bound-preserved c =
    let l = c.loop-bound in
    let high = c.args.high.now in
    let pages = c.args.pages.now in
    let above = c.count_above-above.result in
    let n = by_page c.args.low.now in
    let most : above ≤ length pages = omega (arith, c.count_above-above.ensures, count_by-le-length (λ u. nat_lt (get_or high l.bound-index 0) (n u)) pages) in
    elim c.if-above-gt0.branch [
      | then-above-gt0 w ↦
          let inside : above - 1 < length l.counts = omega (arith, l.invariant.size, most, w.if-above-gt0.true) in
          record {
            size = omega (arith, c.if-above-gt0.auto.counts, l.invariant.size);
            lower = λ i v.
                ap (λ (xs : List ℕ). sum (drop i xs)) w.counts-is
                ∙ counted n pages high c.requires.falls l.counts l.bound-index (get_or high l.bound-index 0) above c.loop-bound-test.true refl c.count_above-above.ensures w.if-above-gt0.true
                (omega (arith, inside)) l.invariant.lower _ refl i v;
            few = omega (arith, ap sum w.counts-is, one_more l.counts (above - 1) _ inside refl, l.invariant.few);
          }
      | else-above-gt0 w ↦ record {
        size = omega (arith, c.if-above-gt0.auto.counts, l.invariant.size);
        lower = λ i v.
            ap (λ (xs : List ℕ). sum (drop i xs)) w.counts-is
            ∙ uncounted n pages high c.requires.falls l.counts l.bound-index (get_or high l.bound-index 0) above c.loop-bound-test.true refl c.count_above-above.ensures (omega (arith, w.if-above-gt0.false))
            l.invariant.lower i v;
        few = omega (arith, ap sum w.counts-is, l.invariant.few);
      }
    ]
