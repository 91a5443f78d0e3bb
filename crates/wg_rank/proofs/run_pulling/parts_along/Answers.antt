use Rattle.std.proofs.Common.{◌-◌, List, ap, ◌∙◌, arith}
use Rattle.std.proofs.lemmas.List.{take_all}
use Rattle.std.proofs.lemmas.List.Sums.{sum_by_more, sum_by_more_le}
use Rattle.wg_transpose.specs.declared.run.PageRun.{PageRun}
use Rattle.wg_rank.specs.Sum.{sum_below}
use Rattle.wg_rank.specs.Pulling.{along}
use Rattle.wg_rank.proofs.run_pulling.parts_along.Goals as goal

pub overflow_add-below : goal.overflow_add-below
overflow_add-below c =
    let s = c.requires.summed in
    omega (
      arith,
      sum_by_more_le (λ (r : PageRun). sum_below r.to s.1 - sum_below r.from s.1) c.args.runs.now c.loop-run.run-index (record { from = 0; to = 0 }) (omega arith),
      c.loop-run.invariant.below s.0 s.1 s.2 s.3,
      c.rise_in_parts-low.ensures.below s.0 s.1 s.2 s.3,
      s.4,
    )

pub overflow_add-above : goal.overflow_add-above
overflow_add-above c =
    let s = c.requires.summed in
    omega (
      arith,
      sum_by_more_le (λ (r : PageRun). sum_below r.to s.2 - sum_below r.from s.2) c.args.runs.now c.loop-run.run-index (record { from = 0; to = 0 }) (omega arith),
      c.loop-run.invariant.above s.0 s.1 s.2 s.3,
      c.rise_in_parts-low.ensures.above s.0 s.1 s.2 s.3,
      s.5,
    )

pub loop-run-preserved : goal.loop-run-preserved
loop-run-preserved c = record {
  below = λ n low high h.
      omega (
        arith,
        sum_by_more (λ (r : PageRun). sum_below r.to low - sum_below r.from low) c.args.runs.now c.loop-run.run-index (record { from = 0; to = 0 }) (omega arith),
        c.loop-run.invariant.below n low high h,
        c.rise_in_parts-low.ensures.below n low high h,
      );
  above = λ n low high h.
      omega (
        arith,
        sum_by_more (λ (r : PageRun). sum_below r.to high - sum_below r.from high) c.args.runs.now c.loop-run.run-index (record { from = 0; to = 0 }) (omega arith),
        c.loop-run.invariant.above n low high h,
        c.rise_in_parts-low.ensures.above n low high h,
      );
}

pub returns-clause-low : goal.returns-clause-low
returns-clause-low c = λ n low high h.
    c.loop-run.invariant.below n low high h
    ∙ ap (λ (runs : List PageRun). along (λ u. sum_below u low) runs) (take_all c.loop-run.run-index c.args.runs.now (omega arith))

pub returns-clause-high : goal.returns-clause-high
returns-clause-high c = λ n low high h.
    c.loop-run.invariant.above n low high h
    ∙ ap (λ (runs : List PageRun). along (λ u. sum_below u high) runs) (take_all c.loop-run.run-index c.args.runs.now (omega arith))
