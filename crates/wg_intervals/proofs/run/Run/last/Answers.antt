use Rattle.std.proofs.Common.{◌++◌, ◌∙◌, ◌∷◌, [], ap, arith}
use Rattle.std.specs.List.{range_with_len}
use Rattle.wg_intervals.specs.Canonical.{runs_of}
use Rattle.wg_intervals.proofs.Maximal.{no_runs, first_run}
use Rattle.wg_intervals.proofs.run.Run.last.Goals as goal

pub returns-then-self-eq0-clause-runs : goal.returns-then-self-eq0-clause-runs
returns-then-self-eq0-clause-runs c = ap (λ n. runs_of (range_with_len c.args.self.left n ++ [])) c.if-self-eq0.true ∙ no_runs

pub returns-else-self-eq0-clause-runs : goal.returns-else-self-eq0-clause-runs
returns-else-self-eq0-clause-runs c = first_run c.args.self.left c.args.self.length [] (omega arith) tt ∙ ap (λ rs. c.args.self ∷ rs) no_runs
