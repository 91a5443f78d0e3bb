use Rattle.std.proofs.Common.{ℕ, ◌≡◌, ◌≢◌, ◌+◌, ◌/◌, ◌<◌, length, get_or, refl, ap, sym, subst, ◌∙◌, arith}
use Rattle.wg_graph.specs.Digraph.{outdegree}
use Rattle.std.specs.Int.{div_ceil}
use Rattle.wg_rank.specs.Inflows.{low_flows}
use Rattle.wg_rank.proofs.SideBySide.{low_count, high_count, low_none, high_none}
use Rattle.wg_rank.proofs.Flow.{gathered_none, gathered_more, gathered_same, dangling_more, dangling_same}
use Rattle.wg_rank.proofs.Arcs.{list_below, list_ascends}
use Rattle.wg_rank.proofs.Shared.{all_pages, all_none, dangling_fits, dangling_all, dangling_small, low_sums_fit, high_sums_fit, flows_end, twice_pages}
use Rattle.wg_rank.proofs.gathering.AnyGather.share.Goals as goal
use Rattle.wg_rank.proofs.gathering.AnyGather.share.Goals.{in-Some+then-degree-eq0, in-Some+else-degree-eq0, in_default}

pub overflow_add-low_dangling : goal.overflow_add-low_dangling
overflow_add-low_dangling g c =
    omega (
      arith,
      dangling_fits (g.L.Lists.graph c.args.self.now) (length c.args.low.now) c.loop-u.u c.args.low.now c.loop-u.low_dangling c.requires.few refl c.loop-u-test.true
          c.requires.low_units c.loop-u.invariant.low_rest,
    )

pub overflow_add-high_dangling : goal.overflow_add-high_dangling
overflow_add-high_dangling g c =
    omega (
      arith,
      dangling_fits (g.L.Lists.graph c.args.self.now) (length c.args.low.now) c.loop-u.u c.args.high.now c.loop-u.high_dangling c.requires.few c.requires.high_pages c.loop-u-test.true
          c.requires.high_units c.loop-u.invariant.high_rest,
    )

pub spread-requires-clause-low_room : goal.spread-requires-clause-low_room
spread-requires-clause-low_room g c =
    low_sums_fit (g.L.Lists.graph c.args.self.now) (length c.args.low.now) c.loop-u.u c.get-outdegree.result.by c.quotient-below.result c.args.low.now c.loop-u.inflows c.requires.few refl
    (twice_pages (length c.args.low.now) c.loop-u.inflows c.fill.new.self c.args.inflows.now c.loop-u.auto.inflows c.fill.ensures.len c.requires.inflow_pages) c.loop-u-test.true c.requires.low_units c.quotient-below.ensures c.loop-u.invariant.low

pub spread-requires-clause-high_room : goal.spread-requires-clause-high_room
spread-requires-clause-high_room g c =
    high_sums_fit (g.L.Lists.graph c.args.self.now) (length c.args.low.now) c.loop-u.u c.get-outdegree.result.by c.quotient_up-above.result c.args.high.now c.loop-u.inflows c.requires.few
    c.requires.high_pages (twice_pages (length c.args.low.now) c.loop-u.inflows c.fill.new.self c.args.inflows.now c.loop-u.auto.inflows c.fill.ensures.len c.requires.inflow_pages) c.loop-u-test.true c.requires.high_units c.quotient_up-above.ensures c.loop-u.invariant.high

pub loop-u-init : goal.loop-u-init
loop-u-init g c =
    let zero = all_none _ c.fill.new.self (c.fill.ensures.after (λ y same. same)) in
    let pages = low_count (length c.args.low.now) c.fill.new.self (c.fill.ensures.len ∙ c.requires.inflow_pages) in
    record {
      same = c.begin.ensures.graph;
      place = c.begin.ensures.place;
      low = gathered_none _ _ _ _ (low_none c.fill.new.self zero) pages;
      high = gathered_none _ _ _ _ (high_none c.fill.new.self zero) (high_count c.fill.new.self ∙ pages);
      low_rest = record { total = refl };
      high_rest = record { total = refl };
    }

pub loop-u-preserved : goal.loop-u-preserved
loop-u-preserved g c =
    let a = c.next_list.follows.holds-at-none in
    let i = c.loop-u.invariant in
    let graph = g.L.Lists.graph c.args.self.now in
    let n : ℕ = length c.args.low.now in
    let u : ℕ = c.loop-u.u in
    let pages : length (low_flows c.loop-u.inflows) ≡ n = low_count n c.loop-u.inflows (twice_pages (length c.args.low.now) c.loop-u.inflows c.fill.new.self c.args.inflows.now c.loop-u.auto.inflows c.fill.ensures.len c.requires.inflow_pages) in
    let low : ℕ → ℕ = λ u. get_or c.args.low.now u 0 in
    let high : ℕ → ℕ = λ u. get_or c.args.high.now u 0 in
    let low_share : ℕ → ℕ = λ u. low u / outdegree graph u in
    let high_share : ℕ → ℕ = λ u. div_ceil (high u) (outdegree graph u) in
    elim c.match-next_list.branch [
      | in-Some+then-degree-eq0 w ↦
          let l = rw (i.same, i.place) at w.in-Some.ensures.lent in
          let e : outdegree graph u ≡ 0 = ap length (sym l.1) ∙ w.if-degree-eq0.true in
          let p = rw w.in-Some.is at a in
          record {
            same = rw w.self-is (p.0 ∙ i.same);
            place = rw w.self-is (p.1 ∙ ap (λ k. k + 1) i.place);
            low = rw w.inflows-is (gathered_same graph n u low_share _ e i.low);
            high = rw w.inflows-is (gathered_same graph n u high_share _ e i.high);
            low_rest = rw w.low_dangling-is (dangling_more graph u low _ e i.low_rest);
            high_rest = rw w.high_dangling-is (dangling_more graph u high _ e i.high_rest);
          }
      | in-Some+else-degree-eq0 w ↦
          let l = rw (i.same, i.place) at w.in-Some.ensures.lent in
          let d : outdegree graph u ≡ length w.in-Some.list.now = ap length (sym l.1) in
          let e : outdegree graph u ≢ 0 = λ q. w.if-degree-eq0.false (sym d ∙ q) in
          let p = rw w.in-Some.is at a in
          let s1 = rw (w.quotient-below.ensures, w.get-outdegree.ensures, l.1) at w.spread.ensures.low in
          let s2 = rw (w.quotient_up-above.ensures, w.get-outdegree.ensures, l.1) at w.spread.ensures.high in
          record {
            same = rw w.self-is (p.0 ∙ i.same);
            place = rw w.self-is (p.1 ∙ ap (λ k. k + 1) i.place);
            low = rw w.inflows-is (gathered_more graph n u low_share _ _ pages i.low s1);
            high = rw w.inflows-is (gathered_more graph n u high_share _ _ (high_count c.loop-u.inflows ∙ pages) i.high (λ v k. s2 v (subst (λ (m : ℕ). v < m) (high_count c.loop-u.inflows) k)));
            low_rest = rw w.low_dangling-is (dangling_same graph u low _ e i.low_rest);
            high_rest = rw w.high_dangling-is (dangling_same graph u high _ e i.high_rest);
          }
      | in_default w ↦ absurd (omega (arith, c.requires.pages, c.loop-u-test.true, rw (i.same, i.place) at w.in_default.ensures.lent))
    ]

pub spread-requires-clause-below : goal.spread-requires-clause-below
spread-requires-clause-below g c =
    let l = rw (c.loop-u.invariant.same, c.loop-u.invariant.place) at c.in-Some.ensures.lent in
    let graph = g.L.Lists.graph c.args.self.now in
    let below = list_below graph c.nodes-pages.ensures.proper c.loop-u.u (subst (λ (m : ℕ). c.loop-u.u < m) (sym c.requires.pages) c.loop-u-test.true) in
    let pages = low_count (length c.args.low.now) c.loop-u.inflows (twice_pages (length c.args.low.now) c.loop-u.inflows c.fill.new.self c.args.inflows.now c.loop-u.auto.inflows c.fill.ensures.len c.requires.inflow_pages) in
    rw (pages, l.1, ← c.requires.pages) below

pub returns : goal.returns
returns g c =
    let graph = g.L.Lists.graph c.args.self.now in
    let n : ℕ = length c.args.low.now in
    let r = c.requires in
    let i = c.loop-u.invariant in
    let all : c.loop-u.u ≡ graph.nodes = all_pages c.loop-u.u n graph.nodes r.pages c.loop-u.auto.u-end c.loop-u-test.false in
    let low = dangling_all graph c.loop-u.u c.args.low.now c.loop-u.low_dangling all i.low_rest in
    let high = dangling_all graph c.loop-u.u c.args.high.now c.loop-u.high_dangling all i.high_rest in
    record {
      graph = i.same;
      proper = c.nodes-pages.ensures.proper;
      shared = rw i.same
          (flows_end graph n c.loop-u.u c.args.low.now c.args.high.now c.loop-u.inflows r.few r.pages all refl r.high_pages
          (twice_pages (length c.args.low.now) c.loop-u.inflows c.fill.new.self c.args.inflows.now c.loop-u.auto.inflows c.fill.ensures.len c.requires.inflow_pages) r.low_units r.high_units i.low i.high);
      low_dangling = low;
      high_dangling = high;
      low_dangling_room = dangling_small graph n c.args.low.now c.loop-u.low_dangling r.few r.pages refl r.low_units low;
      high_dangling_room = dangling_small graph n c.args.high.now c.loop-u.high_dangling r.few r.pages r.high_pages r.high_units high;
    }

pub spread-requires-clause-ascending : goal.spread-requires-clause-ascending
spread-requires-clause-ascending g c =
    let l = rw (c.loop-u.invariant.same, c.loop-u.invariant.place) at c.in-Some.ensures.lent in
    let graph = g.L.Lists.graph c.args.self.now in
    rw l.1 (list_ascends graph c.nodes-pages.ensures.proper c.loop-u.u (subst (λ (m : ℕ). c.loop-u.u < m) (sym c.requires.pages) c.loop-u-test.true))
