use Rattle.std.proofs.Common.{codes, refl}
use Rattle.wg_words.proofs.JobLemmas.{differs}
use Rattle.wg_words.proofs.asked.job_on.Goals as goal

pub returns-in_ok-new-in-check : goal.returns-in_ok-new-in-check
returns-in_ok-new-in-check c = rw (c.in-check.is, c.in_ok-new-in-check.ensures) refl

pub returns-in_ok-new-in-arcs : goal.returns-in_ok-new-in-arcs
returns-in_ok-new-in-arcs c = rw (c.in-arcs.is, c.in_ok-new-in-arcs.ensures) refl

pub returns-in_ok-new-in-ascii : goal.returns-in_ok-new-in-ascii
returns-in_ok-new-in-ascii c = rw (c.in-ascii.is, c.in_ok-new-in-ascii.ensures) refl

pub returns-in_ok-new-in-offsets : goal.returns-in_ok-new-in-offsets
returns-in_ok-new-in-offsets c = rw (c.in-offsets.is, c.in_ok-new-in-offsets.ensures) refl

pub returns-in_default : goal.returns-in_default
returns-in_default c =
    rw (
      differs c.args.command.now (codes "check") c.in_default.not-check,
      differs c.args.command.now (codes "arcs") c.in_default.not-arcs,
      differs c.args.command.now (codes "ascii") c.in_default.not-ascii,
      differs c.args.command.now (codes "offsets") c.in_default.not-offsets,
    ) c.more_on.ensures
