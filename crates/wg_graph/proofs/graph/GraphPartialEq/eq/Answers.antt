use Rattle.std.proofs.Common.{◌≡◌, Bool, true, false, ◌&&◌, bytes_eq, sym, ap, ap₂, ◌∙◌}
use Rattle.std.specs.Cmp.Lexicographic.{pointwise}
use Rattle.wg_graph.specs.Digraph.{Digraph}
use Rattle.wg_graph.proofs.Same.{same_cuts}
use Rattle.wg_graph.proofs.graph.GraphPartialEq.eq.Goals as goal

pub returns-then-eq : goal.returns-then-eq
returns-then-eq c =
    let ends = c.self.inside.ends.items in
    let others = c.other.inside.ends.items in
    let cuts = same_cuts ends others c.self.inside.all.items c.other.inside.all.items c.self.invariant.whole c.other.invariant.whole in
    let same : bytes_eq ends others ≡ true = sym c.eq.ensures ∙ c.if-eq.true in
    c.eq-then-eq.ensures ∙ sym (ap (λ (t : Bool). t && bytes_eq c.self.inside.all.items c.other.inside.all.items) same) ∙ cuts
    ∙ ap₂ (λ (g h : Digraph). pointwise bytes_eq g.lists h.lists) c.self.view_is c.other.view_is

pub returns-else-eq : goal.returns-else-eq
returns-else-eq c =
    let ends = c.self.inside.ends.items in
    let others = c.other.inside.ends.items in
    let cuts = same_cuts ends others c.self.inside.all.items c.other.inside.all.items c.self.invariant.whole c.other.invariant.whole in
    let apart : bytes_eq ends others ≡ false = sym c.eq.ensures ∙ c.if-eq.false in
    c.eq.ensures ∙ apart ∙ sym (ap (λ (t : Bool). t && bytes_eq c.self.inside.all.items c.other.inside.all.items) apart) ∙ cuts
    ∙ ap₂ (λ (g h : Digraph). pointwise bytes_eq g.lists h.lists) c.self.view_is c.other.view_is
