use Rattle.std.proofs.Common.{refl, arith}
use Rattle.wg_rank.proofs.LaneSums.{rise_more, rise_room}
use Rattle.wg_rank.proofs.lanes.rise_in_parts.Goals as goal

pub overflow_add-below : goal.overflow_add-below
overflow_add-below c =
    let s = c.requires.summed in
    omega (
      arith,
      rise_room s.1 s.0 _ _ _ _ c.loop-part.below c.rise-low.result.0 (c.loop-part.invariant.below s.0 s.1 s.2 s.3) (c.rise-low.ensures.below s.0 s.1 s.2 s.3)
          (omega arith) (omega (arith, s.3.pages)) (omega (arith, s.3.pages)) s.3.low_small,
    )

pub overflow_add-above : goal.overflow_add-above
overflow_add-above c =
    let s = c.requires.summed in
    omega (
      arith,
      rise_room s.2 s.0 _ _ _ _ c.loop-part.above c.rise-low.result.1 (c.loop-part.invariant.above s.0 s.1 s.2 s.3) (c.rise-low.ensures.above s.0 s.1 s.2 s.3)
          (omega arith) (omega (arith, s.3.pages)) (omega (arith, s.3.pages)) s.3.high_small,
    )

pub loop-part-preserved : goal.loop-part-preserved
loop-part-preserved c = record {
  below = λ n low high h. rise_more low _ _ _ _ _ _ _ (c.loop-part.invariant.below n low high h) (c.rise-low.ensures.below n low high h) refl (omega arith);
  above = λ n low high h. rise_more high _ _ _ _ _ _ _ (c.loop-part.invariant.above n low high h) (c.rise-low.ensures.above n low high h) refl (omega arith);
}

pub overflow_add-result : goal.overflow_add-result
overflow_add-result c =
    let s = c.requires.summed in
    omega (
      arith,
      rise_room s.1 s.0 _ _ _ _ c.loop-part.below c.rise-low-2.result.0 (c.loop-part.invariant.below s.0 s.1 s.2 s.3) (c.rise-low-2.ensures.below s.0 s.1 s.2 s.3)
          (omega arith) (omega (arith, s.3.pages)) (omega (arith, s.3.pages)) s.3.low_small,
    )

pub overflow_add-result-2 : goal.overflow_add-result-2
overflow_add-result-2 c =
    let s = c.requires.summed in
    omega (
      arith,
      rise_room s.2 s.0 _ _ _ _ c.loop-part.above c.rise-low-2.result.1 (c.loop-part.invariant.above s.0 s.1 s.2 s.3) (c.rise-low-2.ensures.above s.0 s.1 s.2 s.3)
          (omega arith) (omega (arith, s.3.pages)) (omega (arith, s.3.pages)) s.3.high_small,
    )

pub returns-clause-below : goal.returns-clause-below
returns-clause-below c = λ n low high h.
    rise_more low _ _ _ _ _ _ _ (c.loop-part.invariant.below n low high h) (c.rise-low-2.ensures.below n low high h) (omega arith) refl

pub returns-clause-above : goal.returns-clause-above
returns-clause-above c = λ n low high h.
    rise_more high _ _ _ _ _ _ _ (c.loop-part.invariant.above n low high h) (c.rise-low-2.ensures.above n low high h) (omega arith) refl
