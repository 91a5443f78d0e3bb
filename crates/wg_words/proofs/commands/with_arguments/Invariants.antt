use Rattle.std.proofs.Common.{◌≡◌, drop, false}
use Rattle.clap.specs.{Words.app_of, declared.builder.command.Command.TheViews.out-Command}
use Rattle.wg_words.specs.Commands.{rule_in, with_rules}
use Rattle.wg_words.proofs.commands.with_arguments.Given as goal

-- the command so far, with the arguments that are left, comes to the whole
abbrev pub invariant-loop-argument : goal.invariant-loop-argument
invariant-loop-argument l = record {
  local : (out-Command l.command).has_globals ≡ false;
  app : with_rules rule_in (app_of l.fn.command) l.arguments ≡ with_rules rule_in (app_of l.command) (drop l.argument-index l.arguments);
}
