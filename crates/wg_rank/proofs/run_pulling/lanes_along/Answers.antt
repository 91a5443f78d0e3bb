use Rattle.std.specs.Simd.Lanes.{zip2}
use Rattle.std.proofs.Common.{ℕ, ◌+◌, ◌-◌, ◌%◌, ◌^◌, List, ap, ap₂, sym, ◌∙◌, arith, take, get_or}
use Rattle.std.proofs.lemmas.List.{take_all}
use Rattle.std.proofs.lemmas.List.Sums.{sum_by_more}
use Rattle.wg_transpose.specs.declared.run.PageRun.{PageRun}
use Rattle.wg_rank.specs.Sum.{sum_below}
use Rattle.wg_rank.specs.Lanes.{in_lanes}
use Rattle.wg_rank.specs.Pulling.{along}
use Rattle.wg_rank.proofs.LaneSums.{lanes_same, lanes_sum, rise_lanes}
use Rattle.wg_rank.proofs.run_pulling.lanes_along.Goals as goal

pub loop-run-preserved : goal.loop-run-preserved
loop-run-preserved c = λ n low high h.
    let runs : List PageRun = c.args.runs.now in
    let i : ℕ = c.loop-run.run-index in
    let none : PageRun = record { from = 0; to = 0 } in
    let run : PageRun = get_or runs i none in
    ap₂ (zip2 (λ (a b : ℕ). (a + b) % 2 ^ 64)) (c.loop-run.invariant n low high h)
    (rise_lanes n low high c.args.sums.now h run.from run.to (c.requires.ordered i none (omega arith)) (c.requires.within i none (omega arith)))
    ∙ lanes_sum (λ s. along (λ u. sum_below u s) (take i runs)) (λ s. sum_below run.to s - sum_below run.from s) low high
    ∙ lanes_same _ _ low high (λ s. sym (sum_by_more (λ (r : PageRun). sum_below r.to s - sum_below r.from s) runs i none (omega arith)))

pub returns : goal.returns
returns c = λ n low high h.
    c.loop-run.invariant n low high h
    ∙ ap (λ (runs : List PageRun). in_lanes (λ s. along (λ u. sum_below u s) runs) low high) (take_all c.loop-run.run-index c.args.runs.now (omega arith))
