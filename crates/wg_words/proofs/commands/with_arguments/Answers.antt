use Rattle.std.proofs.Common.{rules, ◌+◌, ◌∙◌, ap, sym, drop}
use Rattle.std.proofs.lemmas.List.{at_drop_more, at_drop_all}
use Rattle.clap.specs.Words.{App, Rule, app_of, with_rule}
use Rattle.wg_words.specs.Commands.{rule_in, with_rules}
use Rattle.wg_words.proofs.commands.with_arguments.Goals as goal

pub loop-argument-preserved : goal.loop-argument-preserved
loop-argument-preserved c =
    let rest = drop (c.loop-argument.argument-index + 1) c.args.arguments.now in
    let before = app_of c.loop-argument.command in
    record {
      local = search rules;
      app = c.loop-argument.invariant.app
          ∙ at_drop_more (with_rules rule_in before) c.args.arguments.now c.loop-argument.argument-index _ c.loop-argument-test.true
          ∙ ap (λ (r : Rule). with_rules rule_in (with_rule before r) rest) (sym c.made_argument.ensures.rule)
          ∙ ap (λ (a : App). with_rules rule_in a rest) (search rules);
    }

pub returns : goal.returns
returns c = record {
  app = sym (c.loop-argument.invariant.app ∙ at_drop_all (with_rules rule_in (app_of c.loop-argument.command)) c.args.arguments.now c.loop-argument.argument-index c.loop-argument-test.false);
  local = c.loop-argument.invariant.local;
}
