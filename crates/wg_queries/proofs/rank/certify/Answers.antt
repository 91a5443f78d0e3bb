use Rattle.std.proofs.Common.{◌∙◌, inl, inr, ap, refl, sym}
use Rattle.wg_outside.proofs.PutsLemmas.{is_that_err}
use Rattle.wg_outcomes.specs.Answers.{status_in}
use Rattle.wg_queries.proofs.CertifyLemmas.{certify_done, certify_exit, certify_stopped}
use Rattle.wg_queries.proofs.rank.certify.Goals as goal

pub returns-in_err-write_file-clause-does : goal.returns-in_err-write_file-clause-does
returns-in_err-write_file-clause-does g c =
    let w = c.in_err-write_file.ensures in
    certify_exit c.args.bounds c.args.name.now c.args.job.now _ _ _ _ _ _ c.from_residual.ensures.1
    (certify_stopped c.args.bounds c.args.name.now c.args.job.now _ _ _ _ c.in_err-write_file.field-0.0 refl w.err w.touches)

pub returns-clause-does : goal.returns-clause-does
returns-clause-does g c =
    let w = c.in_ok-write_file.ensures in
    let o = c.print_ranks.ensures in
    certify_done c.args.bounds c.args.name.now c.args.job.now _ _ _ _ c.print_ranks.result w.ok w.touches o.puts o.refusals.only o.refusals.failed o.refusals.memory

pub returns-in_err-write_file-clause-wants : goal.returns-in_err-write_file-clause-wants
returns-in_err-write_file-clause-wants g c = λ want. inr (c.in_err-write_file.ensures.touches.memory (ap status_in (sym (is_that_err _ _ c.from_residual.ensures.1)) ∙ want))

pub returns-clause-wants : goal.returns-clause-wants
returns-clause-wants g c = λ want. inl (c.print_ranks.ensures.refusals.memory want)

pub returns-in_err-write_file-clause-later : goal.returns-in_err-write_file-clause-later
returns-in_err-write_file-clause-later g c = g.met.O.Sink.stays _
