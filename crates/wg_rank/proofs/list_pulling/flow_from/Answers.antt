use Rattle.std.specs.List.{sum_by}
use Rattle.std.proofs.Common.{◌^◌, ◌<◌, length, arith, ◌∙◌, ap}
use Rattle.std.proofs.lemmas.List.Elements.{All-take, All-drop}
use Rattle.std.proofs.lemmas.List.Sums.{sum_by-take-drop}
use Rattle.wg_rank.proofs.Listed.{low_joins, high_joins}
use Rattle.wg_rank.proofs.list_pulling.flow_from.Goals as goal

pub overflow_add-below : goal.overflow_add-below
overflow_add-below c =
    let s = c.requires.shares in
    let e = c.from_lanes-low.ensures.below
    ∙ low_joins s.0 s.1 s.2 c.args.shares.now s.3 c.split_at.result.0.now (omega arith)
    (rw c.split_at.ensures.front (All-take (λ u. u < length c.args.shares.now) (2 ^ 24) c.parts.left.now c.parts.invariant.within))
    c.lanes_from.result (c.lanes_from.ensures s.0 s.1 s.2 s.3) in
    omega (
      arith,
      e,
      c.parts.invariant.low s.0 s.1 s.2 s.3,
      sum_by-take-drop s.1 c.parts.left.now (2 ^ 24),
      ap (sum_by s.1) c.split_at.ensures.front,
      s.4,
    )

pub overflow_add-above : goal.overflow_add-above
overflow_add-above c =
    let s = c.requires.shares in
    let e = c.from_lanes-low.ensures.above
    ∙ high_joins s.0 s.1 s.2 c.args.shares.now s.3 c.split_at.result.0.now (omega arith)
    (rw c.split_at.ensures.front (All-take (λ u. u < length c.args.shares.now) (2 ^ 24) c.parts.left.now c.parts.invariant.within))
    c.lanes_from.result (c.lanes_from.ensures s.0 s.1 s.2 s.3) in
    omega (
      arith,
      e,
      c.parts.invariant.high s.0 s.1 s.2 s.3,
      sum_by-take-drop s.2 c.parts.left.now (2 ^ 24),
      ap (sum_by s.2) c.split_at.ensures.front,
      s.5,
    )

pub parts-preserved : goal.parts-preserved
parts-preserved c = record {
  within = rw c.split_at.ensures.back (All-drop (λ u. u < length c.args.shares.now) (2 ^ 24) c.parts.left.now c.parts.invariant.within);
  low = λ n low high h.
      let e = c.from_lanes-low.ensures.below
      ∙ low_joins n low high c.args.shares.now h c.split_at.result.0.now (omega arith)
      (rw c.split_at.ensures.front (All-take (λ u. u < length c.args.shares.now) (2 ^ 24) c.parts.left.now c.parts.invariant.within))
      c.lanes_from.result (c.lanes_from.ensures n low high h) in
      omega (
        arith,
        e,
        c.parts.invariant.low n low high h,
        sum_by-take-drop low c.parts.left.now (2 ^ 24),
        ap (sum_by low) c.split_at.ensures.front,
        ap (sum_by low) c.split_at.ensures.back,
      );
  high = λ n low high h.
      let e = c.from_lanes-low.ensures.above
      ∙ high_joins n low high c.args.shares.now h c.split_at.result.0.now (omega arith)
      (rw c.split_at.ensures.front (All-take (λ u. u < length c.args.shares.now) (2 ^ 24) c.parts.left.now c.parts.invariant.within))
      c.lanes_from.result (c.lanes_from.ensures n low high h) in
      omega (
        arith,
        e,
        c.parts.invariant.high n low high h,
        sum_by-take-drop high c.parts.left.now (2 ^ 24),
        ap (sum_by high) c.split_at.ensures.front,
        ap (sum_by high) c.split_at.ensures.back,
      );
}

pub overflow_add-result : goal.overflow_add-result
overflow_add-result c =
    let s = c.requires.shares in
    let e = c.from_lanes-low-2.ensures.below
    ∙ low_joins s.0 s.1 s.2 c.args.shares.now s.3 c.parts.left.now (omega arith) c.parts.invariant.within
    c.lanes_from-2.result (c.lanes_from-2.ensures s.0 s.1 s.2 s.3) in
    omega (arith, e, c.parts.invariant.low s.0 s.1 s.2 s.3, s.4)

pub overflow_add-result-2 : goal.overflow_add-result-2
overflow_add-result-2 c =
    let s = c.requires.shares in
    let e = c.from_lanes-low-2.ensures.above
    ∙ high_joins s.0 s.1 s.2 c.args.shares.now s.3 c.parts.left.now (omega arith) c.parts.invariant.within
    c.lanes_from-2.result (c.lanes_from-2.ensures s.0 s.1 s.2 s.3) in
    omega (arith, e, c.parts.invariant.high s.0 s.1 s.2 s.3, s.5)

pub returns-clause-low : goal.returns-clause-low
returns-clause-low c = λ n low high h.
    let e = c.from_lanes-low-2.ensures.below
    ∙ low_joins n low high c.args.shares.now h c.parts.left.now (omega arith) c.parts.invariant.within
    c.lanes_from-2.result (c.lanes_from-2.ensures n low high h) in
    omega (arith, e, c.parts.invariant.low n low high h)

pub returns-clause-high : goal.returns-clause-high
returns-clause-high c = λ n low high h.
    let e = c.from_lanes-low-2.ensures.above
    ∙ high_joins n low high c.args.shares.now h c.parts.left.now (omega arith) c.parts.invariant.within
    c.lanes_from-2.result (c.lanes_from-2.ensures n low high h) in
    omega (arith, e, c.parts.invariant.high n low high h)
