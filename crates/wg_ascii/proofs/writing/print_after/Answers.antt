use Rattle.std.proofs.Common.{[], Err, sym, append-nil}
use Rattle.wg_outside.proofs.PutsLemmas.{is_that_err}
use Rattle.wg_outside.proofs.RefusalLemmas.{sink_done, sink_after}
use Rattle.wg_lines.proofs.PrintLemmas.{kept}
use Rattle.wg_ascii.specs.Text.{word_after}
use Rattle.wg_ascii.proofs.Texts.{item_printed, item_less, all_printed}
use Rattle.wg_ascii.proofs.writing.print_after.Goals as goal

pub loop-v-init : goal.loop-v-init
loop-v-init g c = record {
  printed = λ t.
      kept (g.S.Sink.taken c.args.sink.now) c.args.lines.now [] c.args.lines.now (sym (append-nil c.args.lines.now));
  later = g.met.S.Sink.stays c.args.sink.now;
}

pub loop-v-preserved : goal.loop-v-preserved
loop-v-preserved g c = record {
  printed = λ t.
      let taken = g.S.Sink.taken in
      item_printed word_after (taken c.args.sink.now) (taken c.loop-v.sink) (taken c.print_word.new.sink)
      c.args.lines.now c.loop-v.lines c.print_word.new.lines [] c.args.list.now c.loop-v.v-index 0
      c.loop-v-test.true (c.loop-v.invariant.printed t) (c.in_ok-print_word.ensures.prints t);
  later = g.met.S.Sink.goes_on _ _ _ c.loop-v.invariant.later c.in_ok-print_word.ensures.later;
}

pub returns-in_err-print_word : goal.returns-in_err-print_word
returns-in_err-print_word g c =
    let n = c.in_err-print_word.ensures in
    let v = c.loop-v.invariant in
    rw (is_that_err c.from_residual.result _ c.from_residual.ensures.1) record {
      prints = λ t.
          let taken = g.S.Sink.taken in
          item_less word_after (taken c.args.sink.now) (taken c.loop-v.sink) (taken c.print_word.new.sink)
          c.args.lines.now c.loop-v.lines [] c.args.list.now c.loop-v.v-index 0
          c.loop-v-test.true (v.printed t) (n.prints t);
      empty = n.empty;
      later = g.met.S.Sink.goes_on _ _ _ v.later n.later;
      refusals =
          sink_after g.S.Sink c.args.sink.now c.loop-v.sink c.print_word.new.sink (Err c.in_err-print_word.field-0.0)
          (g.met.S.Sink.onward _ _ v.later) n.refusals;
    }

pub returns : goal.returns
returns g c =
    let v = c.loop-v.invariant in
    record {
      prints = λ t.
          all_printed word_after _ _ _ _ [] c.args.list.now c.loop-v.v-index c.loop-v-test.false (v.printed t);
      empty = tt;
      later = v.later;
      refusals = sink_done _ _ _ _ (g.met.S.Sink.onward _ _ v.later);
    }
