use Rattle.std.proofs.Common.{ℕ, ◌≤◌, refl, ap, ◌∙◌, arith}
use Rattle.wg_params.specs.declared.limits.TheConstants.{MOST_PAGES}
use Rattle.wg_transpose.specs.Transposed.{predecessors}
use Rattle.wg_rank.specs.Pulling.{Pulled, low_share, high_share, given}
use Rattle.wg_rank.proofs.Runs.{in_sum}
use Rattle.wg_rank.proofs.Listed.{shares_room}
use Rattle.wg_rank.proofs.pulling.PullingGather.flow.Goals as goal

pub flow-requires : goal.flow-requires
flow-requires g c =
    let d = c.self.inside.arcs in
    let s = rw (← c.self.view_is) at c.requires.shared.2 in
    record {
      few = omega (arith, c.requires.few, ap (λ (p : Pulled). p.graph.nodes) c.self.view_is, c.self.invariant, c.deref.ensures.len);
      written = (
        d,
        c.args.v,
        given d (low_share d c.requires.shared.0),
        given d (high_share d c.requires.shared.1),
        c.of_page.ensures.numbers,
        c.of_page.ensures.proper,
        rw c.deref.ensures.value s,
      );
    }

pub returns-clause-low : goal.returns-clause-low
returns-clause-low g c = λ l h s.
    let d = c.self.inside.arcs in
    let t = rw (← c.self.view_is) at s in
    rw (← c.self.view_is)
    (c.flow.ensures.low d c.args.v (given d (low_share d l)) (given d (high_share d h)) c.of_page.ensures.numbers c.of_page.ensures.proper (rw c.deref.ensures.value t) ∙ in_sum d (low_share d l) c.args.v)

pub returns-clause-high : goal.returns-clause-high
returns-clause-high g c = λ l h s.
    let d = c.self.inside.arcs in
    let t = rw (← c.self.view_is) at s in
    rw (← c.self.view_is)
    (c.flow.ensures.high d c.args.v (given d (low_share d l)) (given d (high_share d h)) c.of_page.ensures.numbers c.of_page.ensures.proper (rw c.deref.ensures.value t) ∙ in_sum d (high_share d h) c.args.v)

pub returns-clause-low_room : goal.returns-clause-low_room
returns-clause-low_room g c =
    let d = c.self.inside.arcs in
    let low : ℕ → ℕ = given d (low_share d c.requires.shared.0) in
    let high : ℕ → ℕ = given d (high_share d c.requires.shared.1) in
    let s = rw (← c.self.view_is) at c.requires.shared.2 in
    let few : d.nodes ≤ MOST_PAGES = omega (arith, c.requires.few, ap (λ (p : Pulled). p.graph.nodes) c.self.view_is) in
    omega (
      arith,
      c.flow.ensures.low d c.args.v low high c.of_page.ensures.numbers c.of_page.ensures.proper (rw c.deref.ensures.value s),
      shares_room d c.args.v low (predecessors d c.args.v) few refl s.low_small,
    )

pub returns-clause-high_room : goal.returns-clause-high_room
returns-clause-high_room g c =
    let d = c.self.inside.arcs in
    let low : ℕ → ℕ = given d (low_share d c.requires.shared.0) in
    let high : ℕ → ℕ = given d (high_share d c.requires.shared.1) in
    let s = rw (← c.self.view_is) at c.requires.shared.2 in
    let few : d.nodes ≤ MOST_PAGES = omega (arith, c.requires.few, ap (λ (p : Pulled). p.graph.nodes) c.self.view_is) in
    omega (
      arith,
      c.flow.ensures.high d c.args.v low high c.of_page.ensures.numbers c.of_page.ensures.proper (rw c.deref.ensures.value s),
      shares_room d c.args.v high (predecessors d c.args.v) few refl s.high_small,
    )
