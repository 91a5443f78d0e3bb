use Rattle.std.proofs.Common.{◌∷◌, [], decimal}
use Rattle.wg_outside.proofs.RefusalLemmas.{sink_after, sink_exit}
use Rattle.wg_lines.proofs.{PrintLemmas.less_before, PrintLemmas.prints_after}
use Rattle.wg_lookups.proofs.ShownLemmas.{prints_exit}
use Rattle.wg_lookups.proofs.shown.write_spaced.Goals as goal

pub returns-in_err-byte : goal.returns-in_err-byte
returns-in_err-byte g c =
    let e = c.in_err-byte.ensures in
    record {
      prints = λ t. prints_exit _ _ _ _ _ _ _ c.from_residual.ensures.1 (less_before _ _ _ (32 ∷ []) (decimal c.args.number) (e.prints t));
      later = e.later;
      refusals = sink_exit _ _ _ _ _ c.from_residual.ensures.1 e.refusals;
    }

pub returns : goal.returns
returns g c =
    let b = c.in_ok-byte.ensures in
    let e = c.number.ensures in
    record {
      prints = λ t. prints_after _ _ _ _ _ _ (32 ∷ []) (decimal c.args.number) c.number.result (b.prints t) (e.prints t);
      later = g.met.S.Sink.goes_on _ _ _ b.later e.later;
      refusals = sink_after _ _ _ _ _ b.refusals.counts e.refusals;
    }
