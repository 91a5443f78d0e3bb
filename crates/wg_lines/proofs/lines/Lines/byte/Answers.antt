use Rattle.std.proofs.Common.{[], ◌∷◌}
use Rattle.wg_lines.proofs.PrintLemmas.{less_held}
use Rattle.wg_lines.proofs.lines.Lines.byte.Goals as goal

pub returns-in-Err-clause-prints : goal.returns-in-Err-clause-prints
returns-in-Err-clause-prints g c t = less_held _ _ c.args.self.now (c.args.byte ∷ []) (c.in-Err.ensures.prints t)
