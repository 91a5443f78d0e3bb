use Rattle.std.proofs.Common.{rules, ◌+◌, ◌∙◌, ap, sym, drop}
use Rattle.std.proofs.lemmas.List.{at_drop_more, at_drop_all}
use Rattle.clap.specs.Words.{App, app_of}
use Rattle.wg_words.specs.Commands.{app_in, program_app, with_command, with_forms}
use Rattle.wg_words.proofs.commands.command.Goals as goal

pub loop-form-init : goal.loop-form-init
loop-form-init c = record {
  local = c.program-line.ensures.local;
  app = ap (λ (a : App). with_forms app_in a c.as_slice-forms.result.now) c.program-line.ensures.app ∙ ap (with_forms app_in program_app) c.as_slice-forms.ensures;
}

pub loop-form-preserved : goal.loop-form-preserved
loop-form-preserved c =
    let rest = drop (c.loop-form.form-index + 1) c.as_slice-forms.result.now in
    let before = app_of c.loop-form.line in
    let added = c.in_ok-line-in-Ok.ensures in
    record {
      local = search rules;
      app = ap (λ (a : App). with_forms app_in a rest) (added.shape c.in-Ok.ensures.local ∙ ap (with_command before) c.in-Ok.ensures.app)
          ∙ sym (at_drop_more (with_forms app_in before) c.as_slice-forms.result.now c.loop-form.form-index _ c.loop-form-test.true)
          ∙ c.loop-form.invariant.app;
    }

pub returns : goal.returns
returns c = record {
  app = sym (at_drop_all (with_forms app_in (app_of c.loop-form.line)) c.as_slice-forms.result.now c.loop-form.form-index c.loop-form-test.false) ∙ c.loop-form.invariant.app;
  local = c.loop-form.invariant.local;
}
