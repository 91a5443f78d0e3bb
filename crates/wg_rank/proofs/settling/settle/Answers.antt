use Rattle.std.proofs.Common.{ℕ, ◌≡◌, ◌+◌, min, arith, length, refl, sym, ap, ap₂, ◌∙◌}
use Rattle.wg_rank.specs.Rank.{low_flow, high_flow}
use Rattle.wg_rank.proofs.Settled.{block_more, low_from, high_from, no_page, some_page, none_below, unsettled, block_ends, all_settled}
use Rattle.wg_rank.proofs.Flow.{le_both}
use Rattle.wg_rank.proofs.SideBySide.{low_count}
use Rattle.wg_rank.proofs.Weighing.{given_some}
use Rattle.wg_rank.proofs.settling.settle.Goals as goal

pub of-parts-requires : goal.of-parts-requires
of-parts-requires g c = record {
  some = some_page (length c.args.low.now) c.is_empty.result c.is_empty.ensures c.if-is_empty.false;
  few = c.requires.few;
  damped = c.requires.damped;
  below_room = c.requires.below_room;
  above_room = c.requires.above_room;
  weights = c.requires.weights;
}

pub rest-init : goal.rest-init
rest-init g c = record {
  low = λ f h s v l. unsettled _ _ (none_below v l);
  high = λ f h s v l. unsettled _ _ (none_below v l);
  left = λ v l. refl;
}

pub overflow_add-from : goal.overflow_add-from
overflow_add-from g c = omega (arith, c.rest.auto.low, c.requires.few)

pub fill-requires : goal.fill-requires
fill-requires g c =
    let b = block_ends (length c.args.low.now) (length c.rest.low) c.rest.from c.min-to.result c.rest.auto.low c.min-to.ensures c.rest-test.true in
    record {
      few = rw c.requires.pages c.requires.few;
      ordered = b.ordered;
      within = rw c.requires.pages b.within;
      room = rw (low_count 128 c.rest.block c.min-to.array_long) b.room;
      shared = c.requires.shared;
    }

pub settle_block-requires : goal.settle_block-requires
settle_block-requires g c =
    let b = block_ends (length c.args.low.now) (length c.rest.low) c.rest.from c.min-to.result c.rest.auto.low c.min-to.ensures c.rest-test.true in
    record {
      ordered = b.ordered;
      within = rw c.rest.auto.low b.within;
      high_pages = c.rest.auto.high ∙ c.requires.high_pages ∙ sym c.rest.auto.low;
      block_pages = rw (low_count 128 c.fill.new.block (c.fill.auto.block ∙ c.min-to.array_long)) b.room;
      pages = rw c.of-parts.ensures.weights (λ some. ap length (sym (given_some _ _ some)) ∙ c.requires.weights.pages ∙ sym c.rest.auto.low);
      low_room = c.fill.ensures.low_room;
      high_room = c.fill.ensures.high_room;
    }

pub rest-smaller : goal.rest-smaller
rest-smaller g c =
    let b = block_ends (length c.args.low.now) (length c.rest.low) c.rest.from c.min-to.result c.rest.auto.low c.min-to.ensures c.rest-test.true in
    b.fewer (length c.settle_block.new.low) c.settle_block.auto.low

pub rest-preserved : goal.rest-preserved
rest-preserved g c =
    let graph = g.G.Gather.graph c.args.source.now in
    let i = c.rest.invariant in
    let n : ℕ = length c.args.low.now in
    let from : ℕ = c.rest.from in
    let to : ℕ = c.min-to.result in
    let o = c.of-parts.ensures in
    let b = c.settle_block.ensures in
    let same : length c.rest.low ≡ n = c.rest.auto.low in
    let ends = block_ends n (length c.rest.low) from to same c.min-to.ensures c.rest-test.true in
    record {
      low = λ f h s. block_more from to c.rest.low c.settle_block.new.low _ (i.low f h s) b.low_before
          (λ j l. low_from n (from + j) _ _ (low_flow graph f (from + j)) _ _ _ _ _ _ _ _ (rw same at (b.low j l)) (c.fill.ensures.low f h s j l)
          o.damping o.below o.shared o.parts o.weights);
      high = λ f h s. block_more from to c.rest.high c.settle_block.new.high _ (i.high f h s) b.high_before
          (λ j l. (rw same at (b.high j l))
          ∙ ap₂ min (i.left (from + j) (omega arith))
          (high_from n (from + j) _ _ (high_flow graph h (from + j)) _ _ _ _ _ _ _ _ refl (c.fill.ensures.high f h s j l) o.damping o.above o.shared o.parts o.weights));
      left = λ v l. b.high_behind v l ∙ i.left v (le_both from to v ends.ordered l);
    }

pub returns-then-is_empty : goal.returns-then-is_empty
returns-then-is_empty g c = record {
  low = λ f h s v l. unsettled _ _ (no_page (length c.args.low.now) v c.is_empty.result c.is_empty.ensures c.if-is_empty.true l);
  high = λ f h s v l. unsettled _ _ (no_page (length c.args.low.now) v c.is_empty.result c.is_empty.ensures c.if-is_empty.true l);
}

pub returns : goal.returns
returns g c =
    let i = c.rest.invariant in
    record {
      low = λ f h s v l. i.low f h s v (all_settled v (length c.args.low.now) (length c.rest.low) c.rest.from c.rest.auto.low c.rest-test.false l);
      high = λ f h s v l. i.high f h s v (all_settled v (length c.args.low.now) (length c.rest.low) c.rest.from c.rest.auto.low c.rest-test.false l);
    }
