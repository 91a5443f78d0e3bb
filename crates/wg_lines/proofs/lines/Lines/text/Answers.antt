use Rattle.wg_lines.proofs.PrintLemmas.{less_held}
use Rattle.wg_lines.proofs.lines.Lines.text.Goals as goal

pub returns-in-Err-clause-prints : goal.returns-in-Err-clause-prints
returns-in-Err-clause-prints g c t = less_held _ _ c.args.self.now c.args.text.now (c.in-Err.ensures.prints t)
