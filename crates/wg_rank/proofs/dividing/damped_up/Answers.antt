use Rattle.std.proofs.Common.{◌*◌, ◌∙◌, arith}
use Rattle.wg_rank.proofs.Quotients.{quotient_above}
use Rattle.wg_rank.proofs.dividing.damped_up.Goals as goal

pub returns : goal.returns
returns c = c.damped_with.ensures ∙ quotient_above (c.args.damping * c.args.flow) 1000 (omega arith)
