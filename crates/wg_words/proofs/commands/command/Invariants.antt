use Rattle.std.proofs.Common.{◌≡◌, drop, false}
use Rattle.clap.specs.{Words.app_of, declared.builder.command.Command.TheViews.out-Command}
use Rattle.wg_words.specs.Commands.{app_in, command_app, with_forms}
use Rattle.wg_words.proofs.commands.command.Given as goal

-- the command line so far, with the forms that are left, comes to the whole
abbrev pub invariant-loop-form : goal.invariant-loop-form
invariant-loop-form l = record {
  local : (out-Command l.line).has_globals ≡ false;
  app : with_forms app_in (app_of l.line) (drop l.form-index l.forms) ≡ command_app;
}
