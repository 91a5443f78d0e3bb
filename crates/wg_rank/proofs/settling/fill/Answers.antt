use Rattle.std.proofs.Common.{ℕ, List, ◌+◌, ◌*◌, ◌<◌, arith, length, ◌∙◌}
use Rattle.std.proofs.lemmas.List.{length-set}
use Rattle.wg_params.specs.declared.limits.TheConstants.{MOST_PAGES}
use Rattle.wg_rank.specs.Rank.{low_flow, high_flow}
use Rattle.wg_rank.specs.Inflows.{low_flows, high_flows}
use Rattle.wg_rank.specs.declared.limits.TheConstants.{UNITS}
use Rattle.wg_rank.proofs.Settled.{table_more, room_more}
use Rattle.wg_rank.proofs.SideBySide.{high_count}
use Rattle.wg_rank.proofs.settling.fill.Goals as goal

pub loop-i-preserved : goal.loop-i-preserved
loop-i-preserved g c =
    let i = c.loop-i.invariant in
    let graph = g.G.Gather.graph c.args.source.now in
    let at : ℕ = c.loop-i.i in
    let lows : List ℕ = low_flows c.loop-i.block in
    let highs : List ℕ = high_flows c.loop-i.block in
    let there : at < length lows = omega (arith, i.pages, c.requires.room) in
    let also : at < length highs = omega (arith, there, high_count c.loop-i.block) in
    record {
      pages = rw c.put.ensures.low (length-set lows at c.flow-below.result.0 ∙ i.pages);
      low = λ f h s. rw c.put.ensures.low
          (table_more at lows c.flow-below.result.0 (λ j. low_flow graph f (c.args.from + j)) there (c.flow-below.ensures.low f h s) (i.low f h s));
      high = λ f h s. rw c.put.ensures.high
          (table_more at highs c.flow-below.result.1 (λ j. high_flow graph h (c.args.from + j)) also (c.flow-below.ensures.high f h s) (i.high f h s));
      low_room = rw c.put.ensures.low (room_more at lows c.flow-below.result.0 (MOST_PAGES * UNITS) there c.flow-below.ensures.low_room i.low_room);
      high_room = rw c.put.ensures.high (room_more at highs c.flow-below.result.1 (MOST_PAGES * UNITS) also c.flow-below.ensures.high_room i.high_room);
    }
