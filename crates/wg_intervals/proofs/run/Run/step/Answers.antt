use Rattle.std.proofs.Common.{arith}
use Rattle.wg_intervals.proofs.Maximal.{one_on, apart}
use Rattle.wg_intervals.proofs.run.Run.step.Goals as goal

pub returns-then-number-self-clause-runs : goal.returns-then-number-self-clause-runs
returns-then-number-self-clause-runs c numbers up = one_on c.args.self.now.left c.args.self.now.length c.args.number numbers (omega arith)

pub returns-clause-runs : goal.returns-clause-runs
returns-clause-runs c numbers up = apart c.args.self.now.left c.args.self.now.length c.args.number numbers _ (omega arith) up c.last.ensures.runs
