use Rattle.std.proofs.Common.{◌∙◌, ap, subst, arith}
use Rattle.wg_graph.specs.Ascending.{Below}
use Rattle.wg_graph.specs.Numbers.{is_in}
use Rattle.wg_graph.specs.Digraph.{successors}
use Rattle.wg_shape.specs.Classes.{Quotienting, whole}
use Rattle.wg_shape.proofs.Sorted.{both_ok, list_below, list_is}
use Rattle.wg_shape.proofs.quotienter.Quotienter.list.Goals as goal

pub returns-clause-value : goal.returns-clause-value
returns-clause-value g c =
    both_ok c.set_of.result
    (λ up members.
    list_is _ c.self.invariant.classes c.args.class (omega (arith, ap (λ (t : Quotienting). t.to) c.self.view_is, c.requires.to, c.self.invariant.held.within)) c.set_of.new.list.items up
    (λ y. members y ∙ ap (is_in y) (c.list.ensures _ c.self.invariant.held))
    ∙ ap (λ (t : Quotienting). successors (whole t.pages) c.args.class) c.self.view_is)
    c.set_of.ensures.ascends c.set_of.ensures.members

pub returns-clause-below : goal.returns-clause-below
returns-clause-below g c =
    both_ok c.set_of.result
    (λ up members.
    subst (λ (t : Quotienting). Below t.pages.count c.set_of.new.list.items) c.self.view_is
    (list_below _ c.self.invariant.classes c.args.class (omega (arith, ap (λ (t : Quotienting). t.to) c.self.view_is, c.requires.to, c.self.invariant.held.within)) c.set_of.new.list.items up
    (λ y. members y ∙ ap (is_in y) (c.list.ensures _ c.self.invariant.held))))
    c.set_of.ensures.ascends c.set_of.ensures.members
