use Rattle.std.proofs.Common.{◌∷◌, [], decimal}
use Rattle.wg_outside.proofs.PutsLemmas.{is_that_err}
use Rattle.wg_lines.proofs.PrintLemmas.{less_before}
use Rattle.wg_queries.proofs.print.write_line.Goals as goal

pub returns-in_err-number-clause-prints : goal.returns-in_err-number-clause-prints
returns-in_err-number-clause-prints g c t =
    rw (is_that_err c.from_residual.result _ c.from_residual.ensures.1)
    (less_before (g.S.Sink.taken c.args.sink.now) (g.S.Sink.taken c.number.new.sink) c.args.lines.now (decimal c.args.number) (10 ∷ []) (c.in_err-number.ensures.prints t))
