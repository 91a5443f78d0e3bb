use Rattle.std.proofs.Common.{rules, arith, length, below_more, refl, ap}
use Rattle.wg_rank.proofs.Settled.{low_from}
use Rattle.wg_rank.proofs.Weighing.{given_some}
use Rattle.wg_rank.proofs.judging.first_smaller.Goals as goal

pub of-parts-requires : goal.of-parts-requires
of-parts-requires c = record {
  some = search rules;
  few = c.requires.few;
  damped = c.requires.damped;
  below_room = c.requires.dangling_room;
  above_room = c.requires.dangling_room;
  weights = c.requires.weights;
}

pub low-requires : goal.low-requires
low-requires c = record {
  page = rw c.of-parts.ensures.weights (λ some. omega (arith, ap length (given_some (length c.args.low.now) _ some), c.requires.weights.pages, c.loop-v-test.true));
  room = c.requires.room c.loop-v.v 0 (omega (arith, c.requires.pages, c.loop-v-test.true));
}

pub loop-v-init : goal.loop-v-init
loop-v-init c = λ v l. absurd (omega (arith, l))

pub loop-v-preserved : goal.loop-v-preserved
loop-v-preserved c =
    let o = c.of-parts.ensures in
    let e = low_from _ _ _ _ _ _ _ _ _ _ _ _ _ (c.low.ensures (length c.args.low.now) (omega arith)) refl o.damping o.below o.shared o.parts o.weights in
    below_more _ _ c.loop-v.invariant (omega (arith, e))

pub returns-then-low-v : goal.returns-then-low-v
returns-then-low-v c =
    let o = c.of-parts.ensures in
    let e = low_from _ _ _ _ _ _ _ _ _ _ _ _ _ (c.low.ensures (length c.args.low.now) (omega arith)) refl o.damping o.below o.shared o.parts o.weights in (
      omega (arith, c.loop-v-test.true),
      omega (arith, e, c.if-low-v.true),
      c.loop-v.invariant,
    )

pub returns : goal.returns
returns c = λ v l. c.loop-v.invariant v (omega (arith, l, c.loop-v.auto.v-end, c.loop-v-test.false))
