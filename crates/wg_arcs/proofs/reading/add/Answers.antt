use Rattle.std.proofs.Common.{◌≡◌, ◌++◌, ℕ, Option, Some, None, length, ap, sym, subst, ◌∙◌}
use Rattle.std.specs.List.{last_or}
use Rattle.std.specs.Prelude.{IfSome, option_to_list}
use Rattle.std.proofs.lemmas.Result.{on_ok_weaker}
use Rattle.wg_graph.specs.Arcs.{arcs_of, arcs_from}
use Rattle.wg_graph.specs.Digraph.{Digraph}
use Rattle.wg_graph.specs.Growing.{FollowsOn, with_arc}
use Rattle.wg_graph.proofs.Arcs.{with_arc_arcs}
use Rattle.wg_arcs.specs.Growing.{Begins, MayCome}
use Rattle.wg_arcs.proofs.Order.{Arc}
use Rattle.wg_arcs.proofs.SomeGraph.{begins_more, follows_on}
use Rattle.wg_arcs.proofs.reading.add.Goals as goal

follows : (g : Digraph) (o : Option Arc) (a : Arc) → o ≡ Some a → Begins g.nodes g.lists → IfSome o (MayCome g.nodes (last_or None (arcs_of g)) (length (arcs_of g))) → FollowsOn g a.0 a.1
follows g o a is begun comes = follows_on g a begun (subst (λ (p : Option Arc). IfSome p (MayCome g.nodes (last_or None (arcs_of g)) (length (arcs_of g)))) is comes)

pub push-requires : goal.push-requires
push-requires c = follows c.args.builder.now c.args.arc _ c.in-Some.is c.requires.begun c.requires.comes

pub returns-in-Some-clause-begun : goal.returns-in-Some-clause-begun
returns-in-Some-clause-begun c =
    let g = c.args.builder.now in
    let u = c.in-Some.u in
    let v = c.in-Some.v in
    on_ok_weaker c.push.result (λ (is : c.push.new.self.lists ≡ with_arc g.lists u v).
    subst (Begins c.push.new.self.nodes) (sym is) (subst (λ (n : ℕ). Begins n (with_arc g.lists u v)) (sym c.push.ensures.nodes) (begins_more g u v c.requires.begun (follows g c.args.arc (u, v) c.in-Some.is c.requires.begun c.requires.comes)))) c.push.ensures.ok

pub returns-in-Some-clause-arcs : goal.returns-in-Some-clause-arcs
returns-in-Some-clause-arcs c =
    let g = c.args.builder.now in
    let u = c.in-Some.u in
    let v = c.in-Some.v in
    on_ok_weaker c.push.result (λ (is : c.push.new.self.lists ≡ with_arc g.lists u v).
    ap (arcs_from 0) is ∙ with_arc_arcs g.lists u v (follows g c.args.arc (u, v) c.in-Some.is c.requires.begun c.requires.comes).not_past ∙ ap (λ (o : Option Arc). arcs_of g ++ option_to_list o) (sym c.in-Some.is)) c.push.ensures.ok
