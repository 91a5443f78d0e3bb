use Rattle.std.proofs.Common.{[], ◌∷◌, decimal}
use Rattle.wg_outside.proofs.PutsLemmas.{is_that_err}
use Rattle.wg_outside.proofs.RefusalLemmas.{sink_after}
use Rattle.wg_lines.proofs.PrintLemmas.{less_before, prints_after}
use Rattle.wg_ascii.proofs.writing.print_nodes.Goals as goal

pub returns-in_err-number : goal.returns-in_err-number
returns-in_err-number g c =
    let n = c.in_err-number.ensures in
    rw (is_that_err c.from_residual.result c.in_err-number.field-0.0 c.from_residual.ensures.1) record {
      prints = λ t. less_before _ _ _ (decimal c.args.nodes) (10 ∷ []) (n.prints t);
      empty = n.empty;
      later = n.later;
      refusals = n.refusals;
    }

pub returns : goal.returns
returns g c =
    let n = c.in_ok-number.ensures in
    let r = c.byte.ensures in
    record {
      prints = λ t. prints_after _ _ _ _ _ _ (decimal c.args.nodes) (10 ∷ []) c.byte.result (n.prints t) (r.prints t);
      empty = r.empty;
      later = g.met.S.Sink.goes_on _ _ _ n.later r.later;
      refusals =
          sink_after g.S.Sink c.args.sink.now c.number.new.sink c.byte.new.sink c.byte.result
          (g.met.S.Sink.onward _ _ n.later) r.refusals;
    }
