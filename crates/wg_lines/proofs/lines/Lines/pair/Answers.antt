use Rattle.wg_lines.specs.Printing.{pair_line}
use Rattle.wg_lines.proofs.PrintLemmas.{less_held}
use Rattle.wg_lines.proofs.lines.Lines.pair.Goals as goal

pub returns-in-Err-clause-prints : goal.returns-in-Err-clause-prints
returns-in-Err-clause-prints g c t = less_held _ _ c.args.self.now (pair_line (c.args.first, c.args.second)) (c.in-Err.ensures.prints t)
