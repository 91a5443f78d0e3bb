use Rattle.std.proofs.Common.{sym, ◌∙◌, None}
use Rattle.wg_grammar.specs.declared.fault.Field.TheVariants as field
use Rattle.wg_grammar.proofs.Tallies.{refusal_follows, accepted}
use Rattle.wg_grammar.proofs.progress.Progress.check_copied.Goals as goal

pub returns-in-Some-clause-exact : goal.returns-in-Some-clause-exact
returns-in-Some-clause-exact c p context s follows =
    (refusal_follows c.args.self.now p context s None field.Copied 0 follows (λ h. absurd cc) ∙ sym c.in-Some.ensures, tt)

pub returns-in-None-clause-exact : goal.returns-in-None-clause-exact
returns-in-None-clause-exact c p context s follows =
    accepted c.args.self.now c.take.new.self p context s None field.Copied 0 follows (λ h. absurd cc) (λ h. absurd cc) (sym c.in-None.ensures) c.take.ensures.after
