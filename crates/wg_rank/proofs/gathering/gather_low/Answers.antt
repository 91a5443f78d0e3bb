use Rattle.std.proofs.Common.{ℕ, ◌≡◌, ◌≢◌, ◌+◌, ◌/◌, length, get_or, arith, ap, sym, ◌∙◌}
use Rattle.std.proofs.Math.Nat.{div-le_self}
use Rattle.wg_graph.specs.Digraph.{outdegree}
use Rattle.wg_rank.specs.declared.limits.TheConstants.{UNITS}
use Rattle.wg_rank.proofs.Flow.{le_both, gathered_room, dangling_room, gathered_within, dangling_within, gathered_more, gathered_same, dangling_more, dangling_same}
use Rattle.wg_rank.proofs.Arcs.{list_below}
use Rattle.wg_rank.proofs.gathering.gather_low.Goals as goal
use Rattle.wg_rank.proofs.gathering.gather_low.Goals.{in-Some+then-degree-eq0, in-Some+else-degree-eq0, in_default}

pub overflow_add-dangling : goal.overflow_add-dangling
overflow_add-dangling g c =
    omega (
      arith,
      dangling_room (g.L.Lists.graph c.args.lists.now) c.loop-u.u (λ u. get_or c.args.low.now u 0) c.loop-u.dangling (get_or c.args.low.now c.loop-u.u 0) (omega arith)
          (λ w i. c.requires.units w 0 (omega arith)) (c.requires.units c.loop-u.u 0 (omega arith)) c.loop-u.invariant.rest,
    )

pub spread_low-requires-clause-below : goal.spread_low-requires-clause-below
spread_low-requires-clause-below g c =
    let l = rw (c.loop-u.invariant.same, c.loop-u.invariant.place) at c.in-Some.ensures.lent in
    let n : length c.loop-u.inflows ≡ (g.L.Lists.graph c.args.lists.now).nodes = omega arith in
    rw (n, l.1) (list_below (g.L.Lists.graph c.args.lists.now) c.nodes-pages.ensures.proper c.loop-u.u (omega arith))

pub spread_low-requires-clause-room : goal.spread_low-requires-clause-room
spread_low-requires-clause-room g c =
    gathered_room _ (length c.args.low.now) c.loop-u.u (λ u. get_or c.args.low.now u 0 / outdegree (g.L.Lists.graph c.args.lists.now) u) _ c.quotient.result (omega arith) (omega arith)
    (λ w i. le_both _ _ UNITS (div-le_self _ _) (c.requires.units w 0 (omega arith)))
    (omega (arith, c.quotient.ensures, div-le_self (get_or c.args.low.now c.loop-u.u 0) c.get.result.by, c.requires.units c.loop-u.u 0 (omega arith))) c.loop-u.invariant.flow

pub loop-u-preserved : goal.loop-u-preserved
loop-u-preserved g c =
    let a = c.next_list.follows.holds-at-none in
    let i = c.loop-u.invariant in
    let graph = g.L.Lists.graph c.args.lists.now in
    let n : ℕ = length c.args.low.now in
    let u : ℕ = c.loop-u.u in
    let low : ℕ → ℕ = λ u. get_or c.args.low.now u 0 in
    let share : ℕ → ℕ = λ u. low u / outdegree graph u in
    elim c.match-next_list.branch [
      | in-Some+then-degree-eq0 w ↦
          let l = rw (i.same, i.place) at w.in-Some.ensures.lent in
          let e : outdegree graph u ≡ 0 = ap length (sym l.1) ∙ w.if-degree-eq0.true in
          let p = rw w.in-Some.is at a in
          record {
            same = rw w.lists-is (p.0 ∙ i.same);
            place = rw w.lists-is (p.1 ∙ ap (λ k. k + 1) i.place);
            flow = rw w.inflows-is (gathered_same graph n u share _ e i.flow);
            rest = rw w.dangling-is (dangling_more graph u low _ e i.rest);
          }
      | in-Some+else-degree-eq0 w ↦
          let l = rw (i.same, i.place) at w.in-Some.ensures.lent in
          let d : outdegree graph u ≡ length w.in-Some.list.now = ap length (sym l.1) in
          let e : outdegree graph u ≢ 0 = λ q. w.if-degree-eq0.false (sym d ∙ q) in
          let p = rw w.in-Some.is at a in
          let s = rw (w.quotient.ensures, w.get.ensures, l.1) at w.spread_low.ensures.each in
          record {
            same = rw w.lists-is (p.0 ∙ i.same);
            place = rw w.lists-is (p.1 ∙ ap (λ k. k + 1) i.place);
            flow = rw w.inflows-is (gathered_more graph n u share _ _ (omega arith) i.flow s);
            rest = rw w.dangling-is (dangling_same graph u low _ e i.rest);
          }
      | in_default w ↦ absurd (omega (arith, rw (i.same, i.place) at w.in_default.ensures.lent))
    ]

pub returns-clause-flow : goal.returns-clause-flow
returns-clause-flow g c =
    λ v w. let e : c.loop-u.u ≡ (g.L.Lists.graph c.args.lists.now).nodes = omega arith in rw (← e) (c.loop-u.invariant.flow.each v w)

pub returns-clause-room : goal.returns-clause-room
returns-clause-room g c =
    gathered_within (g.L.Lists.graph c.args.lists.now) (length c.args.low.now) c.loop-u.u (λ u. get_or c.args.low.now u 0 / outdegree (g.L.Lists.graph c.args.lists.now) u) _ (omega arith) (omega arith)
    (λ w i. le_both _ _ UNITS (div-le_self _ _) (c.requires.units w 0 (omega arith))) c.loop-u.invariant.flow

pub returns-clause-dangling_room : goal.returns-clause-dangling_room
returns-clause-dangling_room g c =
    dangling_within (g.L.Lists.graph c.args.lists.now) c.loop-u.u (λ u. get_or c.args.low.now u 0) _ (omega arith)
    (λ w i. c.requires.units w 0 (omega arith)) c.loop-u.invariant.rest
