use Rattle.std.proofs.{Common.Err, lemmas.List.take_all}
use Rattle.wg_outside.proofs.RefusalLemmas.{sink_after, sink_done, sink_exit}
use Rattle.wg_outcomes.specs.Commands.{spaced}
use Rattle.wg_lines.proofs.NumberLines.{line_printed, line_less}
use Rattle.wg_lookups.proofs.ShownLemmas.{lines_printed, prints_exit}
use Rattle.wg_lookups.proofs.shown.write_listed.Goals as goal

pub loop-successor-preserved : goal.loop-successor-preserved
loop-successor-preserved g c = record {
  printed = λ t.
      let taken = g.S.Sink.taken in
      line_printed spaced (taken c.args.sink.now) (taken c.loop-successor.sink) (taken c.write_spaced.new.sink) c.args.lines.now c.loop-successor.lines c.write_spaced.new.lines c.args.list.now c.loop-successor.successor-index c.loop-successor-test.true
      (c.loop-successor.invariant.printed t) (c.in_ok-write_spaced.ensures.prints t);
  later = g.met.S.Sink.goes_on _ _ _ c.loop-successor.invariant.later c.in_ok-write_spaced.ensures.later;
}

pub returns-in_err-write_spaced : goal.returns-in_err-write_spaced
returns-in_err-write_spaced g c =
    let i = c.loop-successor.invariant in
    let e = c.in_err-write_spaced.ensures in
    record {
      prints = λ t.
          prints_exit c.from_residual.result c.in_err-write_spaced.field-0.0 _ _ _ _ _ c.from_residual.ensures.1
          (line_less spaced _ _ _ _ _ c.args.list.now c.loop-successor.successor-index c.loop-successor-test.true (i.printed t) (e.prints t));
      later = g.met.S.Sink.goes_on _ _ _ i.later e.later;
      refusals =
          sink_exit g.S.Sink c.args.sink.now c.write_spaced.new.sink c.from_residual.result c.in_err-write_spaced.field-0.0 c.from_residual.ensures.1
          (sink_after g.S.Sink c.args.sink.now c.loop-successor.sink c.write_spaced.new.sink (Err c.in_err-write_spaced.field-0.0)
          (g.met.S.Sink.onward c.args.sink.now c.loop-successor.sink i.later) e.refusals);
    }

pub returns : goal.returns
returns g c =
    let i = c.loop-successor.invariant in
    let all = take_all c.loop-successor.successor-index c.args.list.now c.loop-successor-test.false in
    record {
      prints = λ t. lines_printed _ _ _ _ _ c.args.list.now all (i.printed t);
      later = i.later;
      refusals = sink_done _ _ _ tt (g.met.S.Sink.onward _ _ i.later);
    }
