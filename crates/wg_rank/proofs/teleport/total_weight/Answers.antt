use Rattle.std.proofs.Common.{arith, ◌≡◌, ◌+◌, length, sym, ◌∙◌}
use Rattle.std.proofs.lemmas.Bool.{eqb-true, eqb-false}
use Rattle.wg_rank.proofs.Sums.{sum_more}
use Rattle.wg_rank.proofs.Weighing.{even_total, given_total, given_room}
use Rattle.wg_rank.proofs.teleport.total_weight.Goals as goal

pub returns-then-is_empty-clause-value : goal.returns-then-is_empty-clause-value
returns-then-is_empty-clause-value c =
    sym (even_total c.args.n c.args.weights.now (eqb-true _ _ (sym c.is_empty.ensures ∙ c.if-is_empty.true)))

pub overflow_add-sum : goal.overflow_add-sum
overflow_add-sum c =
    omega (
      arith,
      sum_more _ _ _ _ c.loop-weight.invariant c.from-sum.ensures,
      given_room (c.loop-weight.weight-index + 1) c.args.n c.args.weights.now c.requires.weights (omega arith),
    )

pub loop-weight-preserved : goal.loop-weight-preserved
loop-weight-preserved c = sum_more _ _ _ _ c.loop-weight.invariant c.from-sum.ensures

pub returns-clause-value : goal.returns-clause-value
returns-clause-value c =
    let e : c.loop-weight.weight-index ≡ length c.args.weights.now = omega arith in
    rw (← given_total c.args.n c.args.weights.now c.requires.weights (eqb-false _ _ (sym c.is_empty.ensures ∙ c.if-is_empty.false)), ← e) c.loop-weight.invariant

pub returns-clause-room : goal.returns-clause-room
returns-clause-room c =
    omega (arith, c.loop-weight.invariant, given_room c.loop-weight.weight-index c.args.n c.args.weights.now c.requires.weights (omega arith))
