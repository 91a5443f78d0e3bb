use Rattle.std.specs.List.{sum_by}
use Rattle.std.specs.Simd.Lanes.{zip2}
use Rattle.std.proofs.Common.{ℕ, ◌+◌, ◌%◌, ◌^◌, List, ap, ap₂, sym, ◌∙◌, arith, take, get_or}
use Rattle.std.proofs.lemmas.List.{take_all}
use Rattle.std.proofs.lemmas.List.Sums.{sum_by_more}
use Rattle.wg_rank.specs.Lanes.{in_lanes}
use Rattle.wg_rank.proofs.LaneSums.{lanes_same, lanes_sum}
use Rattle.wg_rank.proofs.list_pulling.lanes_from.Goals as goal

pub loop-source-preserved : goal.loop-source-preserved
loop-source-preserved c = λ n low high h.
    let xs : List ℕ = c.args.sources.now in
    let i : ℕ = c.loop-source.source-index in
    ap₂ (zip2 (λ (a b : ℕ). (a + b) % 2 ^ 64)) (c.loop-source.invariant n low high h)
    (h.each (get_or xs i 0) (omega (arith, h.pages, c.requires i 0 (omega arith))))
    ∙ lanes_sum (λ s. sum_by s (take i xs)) (λ s. s (get_or xs i 0)) low high
    ∙ lanes_same _ _ low high (λ s. sym (sum_by_more s xs i 0 (omega arith)))

pub returns : goal.returns
returns c = λ n low high h.
    c.loop-source.invariant n low high h
    ∙ ap (λ (xs : List ℕ). in_lanes (λ s. sum_by s xs) low high) (take_all c.loop-source.source-index c.args.sources.now (omega arith))
