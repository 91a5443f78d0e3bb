use Rattle.std.proofs.Common.{◌++◌, take, codes, decimal}
use Rattle.wg_lines.proofs.PrintLemmas.{less_held}
use Rattle.wg_lines.proofs.lines.Lines.pair_after.Goals as goal

pub returns-in-Err-clause-prints : goal.returns-in-Err-clause-prints
returns-in-Err-clause-prints g c t = less_held _ _ c.args.self.now (take c.args.count c.args.start.now ++ decimal c.args.second ++ codes "\n") (c.in-Err.ensures.prints t)
