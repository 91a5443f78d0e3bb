use Rattle.std.proofs.Common.{rules, arith, ◌≡◌, ◌≤◌, length, sym, ap, ◌∙◌}
use Rattle.std.specs.Ordering.{is_lt}
use Rattle.wg_order.specs.Compared.{compared}
use Rattle.wg_order.proofs.Summaries.{IsFirst, stays, changes, none_is, first_is}
use Rattle.wg_order.proofs.summary.first_page.Goals as goal
use Rattle.wg_order.proofs.summary.first_page.Goals.{then-is_lt, else-is_lt}

pub returns-then-is_empty : goal.returns-then-is_empty
returns-then-is_empty c = λ pages r.
    let none : length c.args.low.now ≡ 0 = search rules in none_is c.args.low.now c.args.high.now pages none r

pub returns : goal.returns
returns c = λ pages r.
    let l = c.loop-page in
    let low = c.args.low.now in
    let high = c.args.high.now in
    let some : 1 ≤ length low = search rules in
    let all : l.page ≡ length low = omega (arith, c.loop-page-test.false, l.auto.page-end some) in
    let first : IsFirst low high (length low) l.first = rw (← all) l.invariant.first in
    first_is low high pages l.first (omega (arith, l.invariant.below, all)) first r

pub loop-page-preserved : goal.loop-page-preserved
loop-page-preserved c =
    let l = c.loop-page in
    let low = c.args.low.now in
    let high = c.args.high.now in
    let told : is_lt (compared low high l.page l.first) ≡ c.is_lt.result = ap is_lt (sym c.compare.ensures) ∙ sym c.is_lt.ensures in
    elim c.if-is_lt.branch [
      | then-is_lt w ↦ record {
        below = omega (arith, w.first-is);
        first = rw w.first-is (changes low high l.page l.first l.invariant.below l.invariant.first (told ∙ w.if-is_lt.true));
      }
      | else-is_lt w ↦ record {
        below = omega (arith, w.first-is, l.invariant.below);
        first = rw w.first-is (stays low high l.page l.first l.invariant.below l.invariant.first (told ∙ w.if-is_lt.false));
      }
    ]
