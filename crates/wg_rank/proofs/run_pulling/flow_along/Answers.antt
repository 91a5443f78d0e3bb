use Rattle.std.proofs.Common.{ℕ, ◌+◌, ◌*◌, ◌^◌, List, ap, ◌∙◌, arith, get_or}
use Rattle.wg_rank.proofs.Runs.{ordered, flow_sum, flow_room, flow_joins}
use Rattle.wg_rank.proofs.run_pulling.flow_along.Goals as goal

pub lanes_along-requires-clause-ordered : goal.lanes_along-requires-clause-ordered
lanes_along-requires-clause-ordered c = ordered c.requires.summed.0 c.requires.summed.1 c.args.runs.now c.requires.summed.4

pub returns-then-sums-le-MOST_ADDED-clause-low : goal.returns-then-sums-le-MOST_ADDED-clause-low
returns-then-sums-le-MOST_ADDED-clause-low c = λ g v low high runs sums.
    c.from_lanes.ensures.below
    ∙ ap (λ (l : List ℕ). get_or l 0 0 + get_or l 1 0 * 2 ^ 40) (c.lanes_along.ensures g.nodes low high sums)
    ∙ flow_joins g v c.args.runs.now runs low (omega (arith, sums.pages)) sums.low_small

pub returns-then-sums-le-MOST_ADDED-clause-high : goal.returns-then-sums-le-MOST_ADDED-clause-high
returns-then-sums-le-MOST_ADDED-clause-high c = λ g v low high runs sums.
    c.from_lanes.ensures.above
    ∙ ap (λ (l : List ℕ). get_or l 2 0 + get_or l 3 0 * 2 ^ 40) (c.lanes_along.ensures g.nodes low high sums)
    ∙ flow_joins g v c.args.runs.now runs high (omega (arith, sums.pages)) sums.high_small

pub parts_along-requires-clause-ordered : goal.parts_along-requires-clause-ordered
parts_along-requires-clause-ordered c = ordered c.requires.summed.0 c.requires.summed.1 c.args.runs.now c.requires.summed.4

pub parts_along-requires-clause-summed : goal.parts_along-requires-clause-summed
parts_along-requires-clause-summed c =
    let g = c.requires.summed.0 in
    let v = c.requires.summed.1 in
    let low = c.requires.summed.2 in
    let high = c.requires.summed.3 in
    let runs = c.requires.summed.4 in
    let sums = c.requires.summed.5 in (
      g.nodes,
      low,
      high,
      sums,
      flow_room g v c.args.runs.now runs low (omega (arith, sums.pages)) sums.low_small,
      flow_room g v c.args.runs.now runs high (omega (arith, sums.pages)) sums.high_small,
    )

pub returns-clause-low : goal.returns-clause-low
returns-clause-low c = λ g v low high runs sums. c.parts_along.ensures.low g.nodes low high sums ∙ flow_sum g v c.args.runs.now runs low

pub returns-clause-high : goal.returns-clause-high
returns-clause-high c = λ g v low high runs sums. c.parts_along.ensures.high g.nodes low high sums ∙ flow_sum g v c.args.runs.now runs high
