use Rattle.std.proofs.Common.{codes, length}
use Rattle.wg_outside.proofs.PutsLemmas.{is_that_err}
use Rattle.wg_outside.proofs.RefusalLemmas.{sink_after, sink_exit}
use Rattle.wg_rank.specs.CertificateText.{named_line, bound_lines}
use Rattle.wg_lines.proofs.PrintLemmas.{less_first, less_second, prints_third}
use Rattle.wg_rank.proofs.writing.write_lines.Goals as goal

pub returns-in_err-write_named : goal.returns-in_err-write_named
returns-in_err-write_named g c =
    let e = c.in_err-write_named.ensures in
    record {
      prints = λ t. rw (is_that_err c.from_residual.result _ c.from_residual.ensures.1)
          (less_first _ _ _ (named_line (codes "damping ") c.args.damping) (named_line (codes "pages ") (length c.args.low.now)) (bound_lines c.args.low.now) (e.prints t));
      later = e.later;
      refusals = sink_exit _ _ _ _ _ c.from_residual.ensures.1 e.refusals;
    }

pub returns-in_err-write_named-2 : goal.returns-in_err-write_named-2
returns-in_err-write_named-2 g c =
    let a = c.in_ok-write_named.ensures in
    let e = c.in_err-write_named-2.ensures in
    record {
      prints = λ t. rw (is_that_err c.from_residual-in_err-write_named-2.result _ c.from_residual-in_err-write_named-2.ensures.1)
          (less_second _ _ _ _ _ (named_line (codes "damping ") c.args.damping) (named_line (codes "pages ") (length c.args.low.now)) (bound_lines c.args.low.now) (a.prints t) (e.prints t));
      later = g.met.S.Sink.goes_on _ _ _ a.later e.later;
      refusals = sink_exit _ _ _ _ _ c.from_residual-in_err-write_named-2.ensures.1 (sink_after _ _ _ _ _ (g.met.S.Sink.onward _ _ a.later) e.refusals);
    }

pub returns : goal.returns
returns g c =
    let a = c.in_ok-write_named.ensures in
    let b = c.in_ok-write_named-2.ensures in
    let d = c.write_bounds.ensures in
    let later = g.met.S.Sink.goes_on _ _ _ a.later b.later in
    record {
      prints = λ t.
          prints_third _ _ _ _ _ _ _ _ (named_line (codes "damping ") c.args.damping) (named_line (codes "pages ") (length c.args.low.now)) (bound_lines c.args.low.now) c.write_bounds.result
          (a.prints t) (b.prints t) (d.prints t);
      later = g.met.S.Sink.goes_on _ _ _ later d.later;
      refusals = sink_after _ _ _ _ _ (g.met.S.Sink.onward _ _ later) d.refusals;
    }
