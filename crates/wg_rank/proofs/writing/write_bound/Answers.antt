use Rattle.std.proofs.Common.{codes}
use Rattle.wg_lines.proofs.PrintLemmas.{less_before, prints_after}
use Rattle.wg_outside.proofs.PutsLemmas.{is_that_err}
use Rattle.wg_outside.proofs.RefusalLemmas.{sink_after, sink_exit}
use Rattle.wg_num.specs.Units.{text_of_units}
use Rattle.wg_rank.proofs.writing.write_bound.Goals as goal

pub returns-in_err-text : goal.returns-in_err-text
returns-in_err-text g c =
    let e = c.in_err-text.ensures in
    record {
      prints = λ t. rw (is_that_err c.from_residual.result _ c.from_residual.ensures.1)
          (less_before _ _ _ (text_of_units c.args.bound) (codes "\n") (rw (c.as_slice.ensures, c.units_text.ensures.text) at (e.prints t)));
      later = e.later;
      refusals = sink_exit _ _ _ _ _ c.from_residual.ensures.1 e.refusals;
    }

pub returns : goal.returns
returns g c =
    let a = c.in_ok-text.ensures in
    let b = c.byte.ensures in
    record {
      prints = λ t.
          prints_after _ _ _ _ _ _ (text_of_units c.args.bound) (codes "\n") c.byte.result (rw (c.as_slice.ensures, c.units_text.ensures.text) at (a.prints t)) (b.prints t);
      later = g.met.S.Sink.goes_on _ _ _ a.later b.later;
      refusals = sink_after _ _ _ _ _ (g.met.S.Sink.onward _ _ a.later) b.refusals;
    }
