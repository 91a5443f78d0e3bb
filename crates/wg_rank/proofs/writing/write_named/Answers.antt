use Rattle.std.proofs.Common.{codes, decimal}
use Rattle.wg_outside.proofs.PutsLemmas.{is_that_err}
use Rattle.wg_outside.proofs.RefusalLemmas.{sink_after, sink_exit}
use Rattle.wg_lines.proofs.PrintLemmas.{less_first, less_second, prints_third}
use Rattle.wg_rank.proofs.writing.write_named.Goals as goal

pub returns-in_err-text : goal.returns-in_err-text
returns-in_err-text g c =
    let e = c.in_err-text.ensures in
    record {
      prints = λ t. rw (is_that_err c.from_residual.result _ c.from_residual.ensures.1)
          (less_first _ _ _ c.args.word.now (decimal c.args.number) (codes "\n") (e.prints t));
      later = e.later;
      refusals = sink_exit _ _ _ _ _ c.from_residual.ensures.1 e.refusals;
    }

pub returns-in_err-number : goal.returns-in_err-number
returns-in_err-number g c =
    let a = c.in_ok-text.ensures in
    let e = c.in_err-number.ensures in
    record {
      prints = λ t. rw (is_that_err c.from_residual-in_err-number.result _ c.from_residual-in_err-number.ensures.1)
          (less_second _ _ _ _ _ c.args.word.now (decimal c.args.number) (codes "\n") (a.prints t) (e.prints t));
      later = g.met.S.Sink.goes_on _ _ _ a.later e.later;
      refusals = sink_exit _ _ _ _ _ c.from_residual-in_err-number.ensures.1 (sink_after _ _ _ _ _ (g.met.S.Sink.onward _ _ a.later) e.refusals);
    }

pub returns : goal.returns
returns g c =
    let a = c.in_ok-text.ensures in
    let b = c.in_ok-number.ensures in
    let d = c.byte.ensures in
    let later = g.met.S.Sink.goes_on _ _ _ a.later b.later in
    record {
      prints = λ t. prints_third _ _ _ _ _ _ _ _ c.args.word.now (decimal c.args.number) (codes "\n") c.byte.result (a.prints t) (b.prints t) (d.prints t);
      later = g.met.S.Sink.goes_on _ _ _ later d.later;
      refusals = sink_after _ _ _ _ _ (g.met.S.Sink.onward _ _ later) d.refusals;
    }
