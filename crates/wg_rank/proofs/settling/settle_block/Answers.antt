use Rattle.std.proofs.Common.{ℕ, ◌+◌, min, arith, length, get_or, ap, ap₂, ◌∙◌}
use Rattle.wg_rank.specs.Inflows.{low_flows}
use Rattle.wg_rank.specs.Settling.{low_of, high_of}
use Rattle.wg_rank.proofs.Settled.{part_more, part_before, table_left, part_in, before_end, part_done}
use Rattle.wg_rank.proofs.SideBySide.{high_count}
use Rattle.wg_rank.proofs.settling.settle_block.Goals as goal

pub high_flow-requires : goal.high_flow-requires
high_flow-requires c = omega (arith, high_count c.args.block.now)

pub loop-i-preserved : goal.loop-i-preserved
loop-i-preserved c =
    let i = c.loop-i.invariant in
    let n : ℕ = length c.args.low.now in
    let from : ℕ = c.args.from in
    let at : ℕ = c.loop-i.i in
    record {
      low_before = part_before from at c.loop-i.low c.args.low.now _ i.low_before;
      low = part_more from at c.loop-i.low _ (λ j. low_of c.args.parts.now n (from + j) (get_or (low_flows c.args.block.now) j 0)) (omega arith)
          (c.low.ensures n (omega arith) ∙ ap (λ x. low_of c.args.parts.now n (from + at) x) c.low_flow.ensures) i.low;
      high_before = part_before from at c.loop-i.high c.args.high.now _ i.high_before;
      high = part_more from at c.loop-i.high _ _ (omega arith)
          (c.min.ensures
          ∙ ap₂ min (i.high_left (from + at) (omega arith)) (c.high.ensures n (omega arith) ∙ ap (λ x. high_of c.args.parts.now n (from + at) x) c.high_flow.ensures)) i.high;
      high_left = λ v l. table_left (from + at) c.loop-i.high c.args.high.now _ i.high_left v (omega arith);
    }

pub low-requires : goal.low-requires
low-requires c =
    let at = part_in c.args.from c.args.to c.loop-i.i c.loop-i-test.true in
    record {
      page = λ some. rw (c.requires.pages some) (before_end _ _ _ at c.requires.within);
      room = rw c.low_flow.ensures (c.requires.low_room c.loop-i.i at);
    }

pub high-requires : goal.high-requires
high-requires c =
    let at = part_in c.args.from c.args.to c.loop-i.i c.loop-i-test.true in
    record {
      page = λ some. rw (c.requires.pages some) (before_end _ _ _ at c.requires.within);
      room = rw c.high_flow.ensures (c.requires.high_room c.loop-i.i at);
    }

pub returns : goal.returns
returns c =
    let i = c.loop-i.invariant in
    record {
      low_before = i.low_before;
      low = λ j l. i.low j (part_done c.args.from c.args.to c.loop-i.i j c.loop-i-test.false l);
      high_before = i.high_before;
      high = λ j l. i.high j (part_done c.args.from c.args.to c.loop-i.i j c.loop-i-test.false l);
      high_behind = λ v l. i.high_left v (omega (arith, c.requires.ordered, c.loop-i.auto.i-end, l));
    }
