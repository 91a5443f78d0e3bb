use Rattle.std.proofs.Common.{◌≤◌, subst}
use Rattle.wg_params.specs.declared.limits.TheConstants.{MOST_ARCS}
use Rattle.wg_graph.specs.Digraph.{arc_count}
use Rattle.wg_shape.specs.Classes.{Quotienting, whole}
use Rattle.wg_shape.proofs.Gathered.{few_arcs}
use Rattle.wg_shape.proofs.quotienter.Quotienter.nodes.Goals as goal

pub returns-clause-few : goal.returns-clause-few
returns-clause-few g c = subst (λ (t : Quotienting). arc_count (whole t.pages) ≤ MOST_ARCS) c.self.view_is (few_arcs _ c.self.invariant.classes)
