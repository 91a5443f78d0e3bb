use Rattle.std.specs.Int.{div_ceil}
use Rattle.std.specs.Simd.Lanes.{zip2}
use Rattle.std.proofs.Common.{ℕ, zero, suc, ◌≡◌, ◌≢◌, ◌+◌, ◌/◌, ◌%◌, ◌^◌, ◌<◌, ◌≤◌, List, [], ap, length, get_or, refl, sym, subst, arith, ◌∙◌}
use Rattle.std.proofs.Math.Nat.{div-le_self}
use Rattle.wg_graph.specs.Digraph.{outdegree}
use Rattle.wg_rank.specs.Intervals.{by_page}
use Rattle.wg_rank.specs.Pulling.{low_share, high_share, given}
use Rattle.wg_rank.specs.declared.limits.TheConstants.{UNITS}
use Rattle.wg_rank.proofs.Settled.{list_more}
use Rattle.wg_rank.proofs.Flow.{le_both, div_ceil_le, dangling_room, dangling_more, dangling_same}
use Rattle.wg_rank.proofs.LaneSums.{lanes_of_page}
use Rattle.wg_rank.proofs.Runs.{given_le, given_none, given_some, sums_more_none, sums_more_some, written_end}
use Rattle.wg_rank.proofs.Shared.{low_unit, high_unit, all_pages, dangling_all}
use Rattle.wg_rank.proofs.pulling.share_out.Goals as goal
use Rattle.wg_rank.proofs.pulling.share_out.Goals.{then-degree-eq0, else-degree-eq0}

-- there is one sum more than pages
place : (u n m k : ℕ) → m ≡ k → k ≡ n + 1 → u < n → u < m
place u n m k e f l = omega (arith, e, f, l)

last : (n m k : ℕ) → m ≡ k → k ≡ n + 1 → n < m
last n m k e f = omega (arith, e, f)

some : (d : ℕ) → d ≢ 0 → 0 < d
some zero h = absurd (h refl)
some (suc d) h = omega arith

pub bounds-lanes-u : goal.bounds-lanes-u
bounds-lanes-u a c = place c.loop-u.u (length c.args.low.now) _ _ c.loop-u.auto.lanes c.requires.lane_pages c.loop-u-test.true

pub degree-requires : goal.degree-requires
degree-requires a c = subst (λ (n : ℕ). c.loop-u.u < n) (sym c.requires.pages) c.loop-u-test.true

pub bounds-low-u : goal.bounds-low-u
bounds-low-u a c = c.loop-u-test.true

pub bounds-high-u : goal.bounds-high-u
bounds-high-u a c = subst (λ (n : ℕ). c.loop-u.u < n) (sym c.requires.high_pages) c.loop-u-test.true

pub get-outdegree-requires : goal.get-outdegree-requires
get-outdegree-requires a c = some _ c.if-degree-eq0.false

pub bounds-low-u-else-degree-eq0 : goal.bounds-low-u-else-degree-eq0
bounds-low-u-else-degree-eq0 a c = c.loop-u-test.true

pub bounds-high-u-else-degree-eq0 : goal.bounds-high-u-else-degree-eq0
bounds-high-u-else-degree-eq0 a c = subst (λ (n : ℕ). c.loop-u.u < n) (sym c.requires.high_pages) c.loop-u-test.true

pub bounds-lanes-low : goal.bounds-lanes-low
bounds-lanes-low a c = last (length c.args.low.now) _ _ c.loop-u.auto.lanes c.requires.lane_pages

pub returns : goal.returns
returns a c = record {
  written =
      written_end a.T.Along.lane c.args.arcs.now.nodes (length c.args.low.now) c.loop-u.u _ _ c.loop-u.total c.loop-u.lanes (omega arith) (omega arith) (omega arith) c.loop-u.invariant.total c.loop-u.invariant.each
      (λ w h. given_le c.args.arcs.now (low_share c.args.arcs.now (by_page c.args.low.now)) w UNITS (le_both _ _ UNITS (div-le_self _ _) (c.requires.low_units w 0 (omega arith))))
      (λ w h. given_le c.args.arcs.now (high_share c.args.arcs.now (by_page c.args.high.now)) w UNITS (le_both _ _ UNITS (div_ceil_le _ _) (c.requires.high_units w 0 (omega arith))));
  low_dangling =
      let all : c.loop-u.u ≡ c.args.arcs.now.nodes = all_pages c.loop-u.u (length c.args.low.now) _ c.requires.pages c.loop-u.auto.u-end c.loop-u-test.false in
      dangling_all c.args.arcs.now c.loop-u.u c.args.low.now c.loop-u.low_dangling all c.loop-u.invariant.low_rest;
  high_dangling =
      let all : c.loop-u.u ≡ c.args.arcs.now.nodes = all_pages c.loop-u.u (length c.args.low.now) _ c.requires.pages c.loop-u.auto.u-end c.loop-u-test.false in
      dangling_all c.args.arcs.now c.loop-u.u c.args.high.now c.loop-u.high_dangling all c.loop-u.invariant.high_rest;
}

pub overflow_add-low_dangling : goal.overflow_add-low_dangling
overflow_add-low_dangling a c =
    omega (
      arith,
      dangling_room c.args.arcs.now c.loop-u.u (λ u. get_or c.args.low.now u 0) c.loop-u.low_dangling (get_or c.args.low.now c.loop-u.u 0) (omega arith)
          (λ w i. c.requires.low_units w 0 (omega arith)) (c.requires.low_units c.loop-u.u 0 (omega arith)) c.loop-u.invariant.low_rest,
    )

pub overflow_add-high_dangling : goal.overflow_add-high_dangling
overflow_add-high_dangling a c =
    omega (
      arith,
      dangling_room c.args.arcs.now c.loop-u.u (λ u. get_or c.args.high.now u 0) c.loop-u.high_dangling (get_or c.args.high.now c.loop-u.u 0) (omega arith)
          (λ w i. c.requires.high_units w 0 (omega arith)) (c.requires.high_units c.loop-u.u 0 (omega arith)) c.loop-u.invariant.high_rest,
    )

pub loop-u-init : goal.loop-u-init
loop-u-init a c = record {
  each = λ w h. absurd (omega arith);
  total = refl;
  low_rest = record { total = refl };
  high_rest = record { total = refl };
}

pub loop-u-preserved : goal.loop-u-preserved
loop-u-preserved a c =
    let i = c.loop-u.invariant in
    let g = c.args.arcs.now in
    let u : ℕ = c.loop-u.u in
    let low : ℕ → ℕ = λ u. get_or c.args.low.now u 0 in
    let high : ℕ → ℕ = λ u. get_or c.args.high.now u 0 in
    let x : ℕ → ℕ = λ u. low u / outdegree g u in
    let y : ℕ → ℕ = λ u. div_ceil (high u) (outdegree g u) in
    let lane = λ (w : ℕ). a.T.Along.lane (given g x) (given g y) w in
    elim c.if-degree-eq0.branch [
      | then-degree-eq0 w ↦
          let e : outdegree g u ≡ 0 = omega arith in
          let none = lanes_of_page (given g x) (given g y) u 0 0 (sym (given_none g x u e)) (sym (given_none g y u e)) (omega arith) (omega arith) in
          record {
            each = rw w.lanes-is (list_more [] u c.loop-u.lanes _ lane (omega arith) (w.lane_of.ensures (given g x) (given g y) u i.total none) i.each);
            total = rw w.total-is (sums_more_none g x y u c.loop-u.total e i.total);
            low_rest = rw w.low_dangling-is (dangling_more g u low _ e i.low_rest);
            high_rest = rw w.high_dangling-is (dangling_more g u high _ e i.high_rest);
          }
      | else-degree-eq0 w ↦
          let d : w.get-outdegree.result.by ≡ outdegree g u = omega arith in
          let e : outdegree g u ≢ 0 = λ q. w.if-degree-eq0.false (omega arith) in
          let small : x u ≤ UNITS = le_both _ _ UNITS (div-le_self _ _) (c.requires.low_units u 0 (omega arith)) in
          let above : y u ≤ UNITS = le_both _ _ UNITS (div_ceil_le _ _) (c.requires.high_units u 0 (omega arith)) in
          let p : w.quotient.result ≡ x u = rw d at w.quotient.ensures in
          let q : w.quotient_up.result ≡ y u = rw d at w.quotient_up.ensures in
          let some = w.in_lanes-given.ensures
          ∙ lanes_of_page (given g x) (given g y) u w.quotient.result w.quotient_up.result (p ∙ sym (given_some g x u e)) (q ∙ sym (given_some g y u e))
          (omega (arith, p)) (omega (arith, q)) in
          record {
            each = rw w.lanes-is (list_more [] u c.loop-u.lanes _ lane (omega arith) (w.lane_of-else-degree-eq0.ensures (given g x) (given g y) u i.total some) i.each);
            total = rw w.total-is
                (ap (λ (l : List ℕ). zip2 (λ (a b : ℕ). (a + b) % 2 ^ 64) c.loop-u.total l) w.in_lanes-given.ensures
                ∙ sums_more_some g x y u w.quotient.result w.quotient_up.result c.loop-u.total e i.total p q (omega (arith, p)) (omega (arith, q)));
            low_rest = rw w.low_dangling-is (dangling_same g u low _ e i.low_rest);
            high_rest = rw w.high_dangling-is (dangling_same g u high _ e i.high_rest);
          }
    ]

pub in_lanes-given-requires : goal.in_lanes-given-requires
in_lanes-given-requires a c = record {
  below = low_unit (length c.args.low.now) c.loop-u.u _ c.quotient.result c.args.low.now refl c.loop-u-test.true c.requires.low_units c.quotient.ensures;
  above = high_unit (length c.args.low.now) c.loop-u.u _ c.quotient_up.result c.args.high.now c.requires.high_pages c.loop-u-test.true c.requires.high_units c.quotient_up.ensures;
}
