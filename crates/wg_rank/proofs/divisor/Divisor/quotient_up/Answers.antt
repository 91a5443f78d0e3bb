use Rattle.std.proofs.Common.{◌∙◌}
use Rattle.wg_rank.proofs.Quotients.{quotient_above}
use Rattle.wg_rank.proofs.divisor.Divisor.quotient_up.Goals as goal

pub returns : goal.returns
returns c = c.quotient.ensures ∙ quotient_above c.args.value c.args.self.now.by c.args.self.now.some
