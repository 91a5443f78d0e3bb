use Rattle.std.proofs.Common.{◌∙◌, refl, sym}
use Rattle.wg_outside.proofs.FilesLemmas.{none_falls-refl}
use Rattle.wg_outcomes.proofs.PerformsLemmas.{performs_at, anywhere_at}
use Rattle.wg_cli.proofs.RunLemmas.{job_ends, not_none, same_job}
use Rattle.wg_cli.proofs.program.try_job.Goals as goal

pub returns-in-None : goal.returns-in-None
returns-in-None g c =
    rw c.in-None.is record {
      usage = λ is. refl;
      no_job = λ none. c.of.ensures.status;
      no_output = λ none. refl;
      performs = λ job is. not_none (sym is);
      anywhere = λ job is. not_none (sym is);
      promised = λ t. tt;
      same = λ none. refl;
      untouched = λ none. refl;
      later = none_falls-refl _;
      later_out = g.met.O.Sink.stays _;
    }

pub returns-in-Some-clause-usage : goal.returns-in-Some-clause-usage
returns-in-Some-clause-usage g c = λ is. job_ends _ _ c.perform.ensures.does.does.possible (sym c.as_ending.ensures.status ∙ is)

pub returns-in-Some-clause-no_job : goal.returns-in-Some-clause-no_job
returns-in-Some-clause-no_job g c = λ none. not_none (sym c.in-Some.is ∙ none)

pub returns-in-Some-clause-no_output : goal.returns-in-Some-clause-no_output
returns-in-Some-clause-no_output g c = λ none. not_none (sym c.in-Some.is ∙ none)

pub returns-in-Some-clause-performs : goal.returns-in-Some-clause-performs
returns-in-Some-clause-performs g c = λ job is.
    performs_at _ _ _ _ _ _ _ _ _ _ (same_job (sym c.in-Some.is ∙ is)) c.as_ending.ensures.status c.as_ending.ensures.promised c.perform.ensures.does.does

pub returns-in-Some-clause-anywhere : goal.returns-in-Some-clause-anywhere
returns-in-Some-clause-anywhere g c = λ job is.
    anywhere_at g.D.Depot g.O.Sink _ _ _ _ _ _ _ _ (same_job (sym c.in-Some.is ∙ is)) c.as_ending.ensures.status c.perform.ensures.anywhere

pub returns-in-Some-clause-same : goal.returns-in-Some-clause-same
returns-in-Some-clause-same g c = rw c.in-Some.is c.perform.ensures.does.does.same

pub returns-in-Some-clause-untouched : goal.returns-in-Some-clause-untouched
returns-in-Some-clause-untouched g c = rw c.in-Some.is c.perform.ensures.untouched

pub returns-in-Some-clause-later : goal.returns-in-Some-clause-later
returns-in-Some-clause-later g c = c.perform.ensures.does.does.later

pub returns-in-Some-clause-later_out : goal.returns-in-Some-clause-later_out
returns-in-Some-clause-later_out g c = c.perform.ensures.does.later
