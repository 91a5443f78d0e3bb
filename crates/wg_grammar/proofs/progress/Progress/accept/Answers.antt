use Rattle.std.proofs.Common.{◌≡◌, sym, subst, ◌∙◌}
use Rattle.wg_grammar.specs.Steps.{Due}
use Rattle.wg_grammar.proofs.Tallies.{due, need_follows, same_field, refusal_follows, accepted}
use Rattle.wg_grammar.proofs.progress.Progress.accept.Goals as goal

pub take-requires-clause-due : goal.take-requires-clause-due
take-requires-clause-due c = due c.args.self.now _ _ (sym c.in-Read.ensures.value)

pub returns-in-Some-clause-exact : goal.returns-in-Some-clause-exact
returns-in-Some-clause-exact c p context s f code follows next_is gives =
    let same : f ≡ c.in-Read.field = same_field f c.in-Read.field code _ (sym next_is ∙ sym (need_follows c.args.self.now p context s follows) ∙ sym c.in-Read.ensures.value) in
    (refusal_follows c.args.self.now p context s c.args.referenced f c.args.value follows gives ∙ rw same (sym c.in-Some.ensures), tt)

pub returns-in-None-clause-exact : goal.returns-in-None-clause-exact
returns-in-None-clause-exact c p context s f code follows next_is gives =
    let same : f ≡ c.in-Read.field = same_field f c.in-Read.field code _ (sym next_is ∙ sym (need_follows c.args.self.now p context s follows) ∙ sym c.in-Read.ensures.value) in
    accepted c.args.self.now c.take.new.self p context s c.args.referenced f c.args.value follows gives
    (λ h. c.in-Read.ensures.early (subst (Due c.args.self.now) (sym same ∙ h) (due c.args.self.now _ _ (sym c.in-Read.ensures.value))))
    (rw same (sym c.in-None.ensures)) (rw same c.take.ensures.after)
