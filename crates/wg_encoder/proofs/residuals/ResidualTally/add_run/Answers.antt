use Rattle.std.proofs.Common.{◌+◌, ◌-◌, ◌++◌, ◌∙◌, ap, sym}
use Rattle.std.specs.List.{range_with_len}
use Rattle.wg_encoder.specs.Cost.{room_after}
use Rattle.wg_encoder.specs.Dues.{residual_dues}
use Rattle.wg_encoder.proofs.Dues.{range_next}
use Rattle.wg_encoder.proofs.residuals.ResidualTally.add_run.Goals as goal

pub loop-index-preserved : goal.loop-index-preserved
loop-index-preserved c =
    let run = c.args.run in
    let i = c.loop-index.index in
    record {
      page = search;
      code = search;
      fields = λ numbers. c.add-room.ensures.fields (range_with_len (run.left + (i + 1)) (run.length - (i + 1)) ++ numbers)
          ∙ ap (λ ys. room_after c.loop-index.room (residual_dues c.loop-index.self (ys ++ numbers))) (sym (range_next run.left run.length i c.loop-index-test.true))
          ∙ c.loop-index.invariant.fields numbers;
    }
