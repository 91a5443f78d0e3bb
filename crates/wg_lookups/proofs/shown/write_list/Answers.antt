use Rattle.std.proofs.Common.{codes, decimal, map}
use Rattle.wg_outside.proofs.RefusalLemmas.{sink_after, sink_exit}
use Rattle.wg_outside.specs.Puts.{joined}
use Rattle.wg_outcomes.specs.Commands.{spaced}
use Rattle.wg_lines.proofs.PrintLemmas.{less_first, less_second, prints_third}
use Rattle.wg_lookups.proofs.ShownLemmas.{prints_exit}
use Rattle.wg_lookups.proofs.shown.write_list.Goals as goal

pub returns-in_err-number : goal.returns-in_err-number
returns-in_err-number g c =
    let e = c.in_err-number.ensures in
    record {
      prints = λ t.
          prints_exit _ _ _ _ _ _ _ c.from_residual.ensures.1
          (less_first _ _ _ (decimal c.args.page) (joined (map spaced c.args.list.now)) (codes "\n") (e.prints t));
      later = e.later;
      refusals = sink_exit _ _ _ _ _ c.from_residual.ensures.1 e.refusals;
    }

pub returns-in_err-write_listed : goal.returns-in_err-write_listed
returns-in_err-write_listed g c =
    let n = c.in_ok-number.ensures in
    let e = c.in_err-write_listed.ensures in
    record {
      prints = λ t.
          prints_exit _ _ _ _ _ _ _ c.from_residual-in_err-write_listed.ensures.1
          (less_second _ _ _ _ _ (decimal c.args.page) (joined (map spaced c.args.list.now)) (codes "\n") (n.prints t) (e.prints t));
      later = g.met.S.Sink.goes_on _ _ _ n.later e.later;
      refusals =
          sink_exit _ _ _ _ _ c.from_residual-in_err-write_listed.ensures.1
          (sink_after _ _ _ _ _ n.refusals.counts e.refusals);
    }

pub returns : goal.returns
returns g c =
    let n = c.in_ok-number.ensures in
    let w = c.in_ok-write_listed.ensures in
    let e = c.byte.ensures in
    record {
      prints = λ t.
          prints_third _ _ _ _ _ _ _ _ (decimal c.args.page) (joined (map spaced c.args.list.now)) (codes "\n") c.byte.result
          (n.prints t) (w.prints t) (e.prints t);
      later = g.met.S.Sink.goes_on _ _ _ (g.met.S.Sink.goes_on _ _ _ n.later w.later) e.later;
      refusals = sink_after _ _ _ _ _ n.refusals.counts (sink_after _ _ _ _ _ w.refusals.counts e.refusals);
    }
