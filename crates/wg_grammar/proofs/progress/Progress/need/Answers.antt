use Rattle.std.proofs.Common.{◌∙◌}
use Rattle.wg_grammar.proofs.Tallies.{need_follows}
use Rattle.wg_grammar.proofs.progress.Progress.need.Goals as goal

pub returns-clause-exact : goal.returns-clause-exact
returns-clause-exact c p context s f = c.next_field.ensures.value ∙ need_follows c.args.self.now p context s f
