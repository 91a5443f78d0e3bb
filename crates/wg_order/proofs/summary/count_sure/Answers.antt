use Rattle.std.proofs.Common.{arith, true, [], sym, ap, ◌≡◌, ◌∙◌}
use Rattle.wg_order.specs.Summary.{is_sure}
use Rattle.wg_order.proofs.Counts.{one, count_on}
use Rattle.wg_order.proofs.summary.count_sure.Goals as goal
use Rattle.wg_order.proofs.summary.count_sure.Goals.{then-has_one, else-has_one}

pub loop-v-preserved : goal.loop-v-preserved
loop-v-preserved c =
    let l = c.loop-v in
    let sure = is_sure (record { filled = true; low = c.args.low.now; high = c.args.high.now; pages = [] }) in
    elim c.if-has_one.branch [
      | then-has_one w ↦
          let more : one (sure l.v) ≡ 1 = ap one (sym c.has_one.ensures ∙ w.if-has_one.true) in
          record { counted = omega (arith, l.invariant.counted, w.sure-is, more, count_on sure l.v); few = omega (arith, l.invariant.few, w.sure-is) }
      | else-has_one w ↦
          let more : one (sure l.v) ≡ 0 = ap one (sym c.has_one.ensures ∙ w.if-has_one.false) in
          record { counted = omega (arith, l.invariant.counted, w.sure-is, more, count_on sure l.v); few = omega (arith, l.invariant.few, w.sure-is) }
    ]
