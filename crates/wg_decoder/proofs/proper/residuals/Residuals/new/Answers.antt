use Rattle.std.specs.Prelude.{None}
use Rattle.wg_decoder.proofs.ProperLemmas.StandingResiduals.{residuals_is, behind_all}
use Rattle.wg_decoder.proofs.proper.residuals.Residuals.new.Goals as goal

pub returns-clause-list : goal.returns-clause-list
returns-clause-list c ys behind len stand = residuals_is c.args.code c.requires.code c.args.page None c.args.count ys _ behind len stand

pub returns-clause-behind : goal.returns-clause-behind
returns-clause-behind c ys behind len stand = behind_all c.args.code c.requires.code c.args.page None c.args.count ys _ behind len stand
