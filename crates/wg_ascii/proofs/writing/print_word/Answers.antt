use Rattle.std.proofs.Common.{[], ◌∷◌, decimal}
use Rattle.wg_outside.proofs.PutsLemmas.{is_that_err}
use Rattle.wg_outside.proofs.RefusalLemmas.{sink_after}
use Rattle.wg_lines.proofs.PrintLemmas.{less_before, prints_after}
use Rattle.wg_ascii.proofs.writing.print_word.Goals as goal

pub returns-in_err-byte : goal.returns-in_err-byte
returns-in_err-byte g c =
    let n = c.in_err-byte.ensures in
    rw (is_that_err c.from_residual.result c.in_err-byte.field-0.0 c.from_residual.ensures.1) record {
      prints = λ t. less_before _ _ _ (32 ∷ []) (decimal c.args.v) (n.prints t);
      empty = n.empty;
      later = n.later;
      refusals = n.refusals;
    }

pub returns : goal.returns
returns g c =
    let n = c.in_ok-byte.ensures in
    let r = c.number.ensures in
    record {
      prints = λ t. prints_after _ _ _ _ _ _ (32 ∷ []) (decimal c.args.v) c.number.result (n.prints t) (r.prints t);
      empty = r.empty;
      later = g.met.S.Sink.goes_on _ _ _ n.later r.later;
      refusals =
          sink_after g.S.Sink c.args.sink.now c.byte.new.sink c.number.new.sink c.number.result
          (g.met.S.Sink.onward _ _ n.later) r.refusals;
    }
