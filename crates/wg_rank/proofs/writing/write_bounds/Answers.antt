use Rattle.std.proofs.Common.{arith, Err}
use Rattle.wg_outside.proofs.PutsLemmas.{is_that_err}
use Rattle.wg_outside.proofs.RefusalLemmas.{sink_done, sink_after, sink_exit}
use Rattle.wg_rank.proofs.Printed.{bound_printed, bound_less, lines_printed}
use Rattle.wg_rank.proofs.writing.write_bounds.Goals as goal

pub loop-bound-preserved : goal.loop-bound-preserved
loop-bound-preserved g c = record {
  printed = λ t.
      let taken = g.S.Sink.taken in
      bound_printed (taken c.args.sink.now) (taken c.loop-bound.sink) (taken c.write_bound.new.sink) c.args.lines.now c.loop-bound.lines c.args.low.now c.loop-bound.bound-index (omega arith)
      (c.loop-bound.invariant.printed t) c.write_bound.new.lines (c.in_ok-write_bound.ensures.prints t);
  later = g.met.S.Sink.goes_on _ _ _ c.loop-bound.invariant.later c.in_ok-write_bound.ensures.later;
}

pub returns-in_err-write_bound : goal.returns-in_err-write_bound
returns-in_err-write_bound g c =
    let taken = g.S.Sink.taken in
    let i = c.loop-bound.invariant in
    let e = c.in_err-write_bound.ensures in
    record {
      prints = λ t. rw (is_that_err c.from_residual.result _ c.from_residual.ensures.1)
          (bound_less (taken c.args.sink.now) (taken c.loop-bound.sink) (taken c.write_bound.new.sink) c.args.lines.now c.loop-bound.lines c.args.low.now c.loop-bound.bound-index (omega arith)
          (i.printed t) (e.prints t));
      later = g.met.S.Sink.goes_on _ _ _ i.later e.later;
      refusals = sink_exit _ _ _ _ _ c.from_residual.ensures.1
          (sink_after _ _ _ _ (Err c.in_err-write_bound.field-0.0) (g.met.S.Sink.onward _ _ c.loop-bound.invariant.later) c.in_err-write_bound.ensures.refusals);
    }

pub returns : goal.returns
returns g c =
    let i = c.loop-bound.invariant in
    record {
      prints = λ t.
          lines_printed (g.S.Sink.taken c.args.sink.now) (g.S.Sink.taken c.loop-bound.sink) c.args.lines.now c.loop-bound.lines c.args.low.now c.loop-bound.bound-index c.loop-bound-test.false (i.printed t);
      later = i.later;
      refusals = sink_done _ _ _ _ (g.met.S.Sink.onward _ _ i.later);
    }
