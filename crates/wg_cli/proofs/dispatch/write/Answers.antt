use Rattle.std.proofs.Common.{ap}
use Rattle.wg_words.specs.Jobs.{writing}
use Rattle.wg_outcomes.proofs.PerformsLemmas.{does_at}
use Rattle.wg_cli.proofs.dispatch.write.Goals as goal

pub returns-in-Build : goal.returns-in-Build
returns-in-Build g c = does_at _ _ _ _ _ _ _ _ _ (ap (writing c.args.job.now.output c.args.job.now.layout) c.in-Build.is) c.build.ensures

pub returns-in-Import : goal.returns-in-Import
returns-in-Import g c = does_at _ _ _ _ _ _ _ _ _ (ap (writing c.args.job.now.output c.args.job.now.layout) c.in-Import.is) c.import.ensures

pub returns-in-Quotient : goal.returns-in-Quotient
returns-in-Quotient g c = does_at _ _ _ _ _ _ _ _ _ (ap (writing c.args.job.now.output c.args.job.now.layout) c.in-Quotient.is) c.quotient.ensures

pub returns-in-Recode : goal.returns-in-Recode
returns-in-Recode g c = does_at _ _ _ _ _ _ _ _ _ (ap (writing c.args.job.now.output c.args.job.now.layout) c.in-Recode.is) c.recode.ensures

pub returns-in-Union : goal.returns-in-Union
returns-in-Union g c = does_at _ _ _ _ _ _ _ _ _ (ap (writing c.args.job.now.output c.args.job.now.layout) c.in-Union.is) c.union.ensures

pub returns-in-Transpose : goal.returns-in-Transpose
returns-in-Transpose g c = does_at _ _ _ _ _ _ _ _ _ (ap (writing c.args.job.now.output c.args.job.now.layout) c.in-Transpose.is) c.transpose.ensures
