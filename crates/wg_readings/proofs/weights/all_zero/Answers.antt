use Rattle.std.proofs.{Common.ℕ, Common.length, Common.sym, Common.arith, lemmas.Bool.ne_eqb}
use Rattle.wg_rank.specs.{Sum.sum_below, Intervals.by_page}
use Rattle.wg_rank.proofs.Sums.{term_le_sum}
use Rattle.wg_readings.proofs.weights.all_zero.Goals as goal

pub returns-then-weight-gt0 : goal.returns-then-weight-gt0
returns-then-weight-gt0 c =
    let w : ℕ → ℕ = by_page c.args.weights.now in
    let n : ℕ = length c.args.weights.now in
    let one = term_le_sum n w c.loop-weight.weight-index (omega (arith, c.loop-weight-test.true)) in
    sym (ne_eqb (sum_below n w) 0 (λ is. omega (arith, one, c.if-weight-gt0.true, is)))
