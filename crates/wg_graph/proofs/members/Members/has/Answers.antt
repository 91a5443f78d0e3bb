use Rattle.std.proofs.Common.{ap, sym, ◌∙◌, subst}
use Rattle.wg_graph.specs.Numbers.{is_in, begins_with}
use Rattle.wg_graph.specs.Ascending.{Ascends}
use Rattle.wg_graph.proofs.Asked.{ascends-drop, in_from_on, begins_from_on}
use Rattle.wg_graph.proofs.members.Members.has.Goals as goal

pub invariant_of-self : goal.invariant_of-self
invariant_of-self c = subst (Ascends 0) (sym c.not_below-self-inside.ensures) (ascends-drop 0 _ c.self.inside.left.now c.self.invariant)

pub returns-clause-told : goal.returns-clause-told
returns-clause-told c = c.begins_with.ensures ∙ ap (begins_with c.args.number) c.not_below-self-inside.ensures ∙ begins_from_on 0 c.args.number c.self.inside.left.now c.self.invariant ∙ ap (is_in c.args.number) c.self.view_is

pub returns-clause-later : goal.returns-clause-later
returns-clause-later c y le = ap (is_in y) c.not_below-self-inside.ensures ∙ in_from_on c.args.number y c.self.inside.left.now le ∙ ap (is_in y) c.self.view_is
