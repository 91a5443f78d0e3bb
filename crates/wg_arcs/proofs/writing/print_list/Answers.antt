use Rattle.std.proofs.Common.{subst, sym, List, [], ℕ, append-nil}
use Rattle.std.proofs.lemmas.List.{take_all}
use Rattle.wg_outside.proofs.PutsLemmas.{is_that_err}
use Rattle.wg_outside.proofs.RefusalLemmas.{sink_done, sink_after}
use Rattle.wg_lines.proofs.PrintLemmas.{kept}
use Rattle.wg_lines.specs.Printing.{HasPrinted, HasPrintedLess}
use Rattle.wg_lines.proofs.NumberLines.{line_printed, line_less}
use Rattle.wg_arcs.specs.Text.{page_lines}
use Rattle.wg_arcs.proofs.Texts.{line_after}
use Rattle.wg_arcs.proofs.writing.print_list.Goals as goal

pub loop-v-preserved : goal.loop-v-preserved
loop-v-preserved g c = record {
  printed = λ t.
      let taken = g.S.Sink.taken in
      line_printed _ _ (taken c.loop-v.sink) (taken c.pair_after.new.sink) c.args.lines.now c.loop-v.lines c.pair_after.new.self c.args.list.now c.loop-v.v-index c.loop-v-test.true (c.loop-v.invariant.printed t)
      (subst (λ (l : List ℕ). HasPrinted (taken c.loop-v.sink) (taken c.pair_after.new.sink) c.loop-v.lines l c.pair_after.new.self) (line_after _ c.args.page _ c.write_start-count.ensures.start) (c.in_ok-pair_after.ensures.prints t));
  later = g.met.S.Sink.goes_on _ _ _ c.loop-v.invariant.later c.in_ok-pair_after.ensures.later;
}

pub returns-in_err-pair_after : goal.returns-in_err-pair_after
returns-in_err-pair_after g c =
    let n = c.in_err-pair_after.ensures in
    let v = c.loop-v.invariant in
    let taken = g.S.Sink.taken in
    rw (is_that_err c.from_residual.result _ c.from_residual.ensures.1) record {
      prints = λ t.
          line_less _ _ (taken c.loop-v.sink) (taken c.pair_after.new.sink) c.args.lines.now
          c.loop-v.lines c.args.list.now c.loop-v.v-index c.loop-v-test.true (v.printed t)
          (subst (λ (l : List ℕ). HasPrintedLess (taken c.loop-v.sink) (taken c.pair_after.new.sink) c.loop-v.lines l)
          (line_after _ c.args.page _ c.write_start-count.ensures.start) (n.prints t));
      empty = n.empty;
      later = g.met.S.Sink.goes_on _ _ _ v.later n.later;
      refusals =
          sink_after g.S.Sink c.args.sink.now c.loop-v.sink c.pair_after.new.sink _
          (g.met.S.Sink.onward _ _ v.later) n.refusals;
    }

pub loop-v-init : goal.loop-v-init
loop-v-init g c = record {
  printed = λ t.
      kept _ c.args.lines.now [] c.args.lines.now (sym (append-nil c.args.lines.now));
  later = g.met.S.Sink.stays c.args.sink.now;
}

pub returns : goal.returns
returns g c =
    let v = c.loop-v.invariant in
    record {
      prints = λ t.
          subst (λ (l : List ℕ). HasPrinted (g.S.Sink.taken c.args.sink.now) (g.S.Sink.taken c.loop-v.sink) c.args.lines.now (page_lines c.args.page l) c.loop-v.lines)
          (take_all c.loop-v.v-index c.args.list.now c.loop-v-test.false) (v.printed t);
      empty = tt;
      later = v.later;
      refusals = sink_done _ _ _ _ (g.met.S.Sink.onward _ _ v.later);
    }
