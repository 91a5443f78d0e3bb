use Rattle.std.proofs.Common.{◌∙◌, List, map, string_bytes, ap, sym, ⊎_elim, option_and_then}
use Rattle.clap.specs.Words.{App, Text, fault_of, is_simple, is_simple_and_free, subcommand_of}
use Rattle.wg_words.specs.{Commands.parsed, Jobs.job_from}
use Rattle.wg_words.proofs.CommandLemmas.{command_simple, command_free, parsed_none, parsed_some, among_at}
use Rattle.wg_words.proofs.JobLemmas.{asked_job, asked_none, asked_within}
use Rattle.wg_words.proofs.asked.job.Goals as goal

pub returns-in-Ok : goal.returns-in-Ok
returns-in-Ok c =
    let app = c.in_ok-command.ensures.app in
    let words : List Text = map string_bytes c.as_slice.result.now in
    let found = parsed_some words _
    (sym (ap (λ (a : App). fault_of a words) app) ∙ c.in-Ok.ensures.kinds (ap is_simple_and_free app ∙ command_free))
    ((c.in-Ok.ensures.matches (ap is_simple app ∙ command_simple)).1 ∙ ap (λ (a : App). subcommand_of a words) app) in
    let wanted = ap (option_and_then job_from) (found ∙ ap parsed c.as_slice.ensures) in
    record {
      job = asked_job c.args.words.now _ c.job_in.result wanted c.job_in.ensures;
      within = asked_within c.args.words.now _ c.job_in.result wanted c.job_in.ensures;
      usage = asked_none c.args.words.now _ c.job_in.result wanted c.job_in.ensures;
    }

pub returns-clause-usage : goal.returns-clause-usage
returns-clause-usage c = λ _.
    let app = c.in_ok-command.ensures.app in
    let words : List Text = map string_bytes c.as_slice.result.now in
    ⊎_elim
    (λ memory. absurd (c.in_default.not-OutOfMemory (c.kind.ensures ∙ memory)))
    (λ among. ap (option_and_then job_from) (sym (ap parsed c.as_slice.ensures) ∙ parsed_none words _ (among_at _ _ app words among)))
    (c.in-Err.ensures.kinds (ap is_simple_and_free app ∙ command_free))
