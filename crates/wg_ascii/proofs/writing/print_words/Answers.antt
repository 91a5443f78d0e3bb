use Rattle.std.proofs.Common.{decimal}
use Rattle.wg_outside.proofs.PutsLemmas.{is_that_err}
use Rattle.wg_outside.proofs.RefusalLemmas.{sink_after, sink_done}
use Rattle.wg_lines.proofs.PrintLemmas.{less_before, prints_after}
use Rattle.wg_ascii.specs.Text.{words_after}
use Rattle.wg_ascii.proofs.Texts.{none_printed}
use Rattle.wg_ascii.proofs.writing.print_words.Goals as goal

pub returns-in_err-number-in-Some : goal.returns-in_err-number-in-Some
returns-in_err-number-in-Some g c =
    let n = c.in_err-number-in-Some.ensures in
    rw (is_that_err c.from_residual.result c.in_err-number-in-Some.field-0.0 c.from_residual.ensures.1) record {
      prints = λ t.
          rw c.in-Some.ensures.cases.0
          (less_before _ _ _ (decimal c.in-Some.first.now) (words_after c.in-Some.others.now) (n.prints t));
      empty = n.empty;
      later = n.later;
      refusals = n.refusals;
    }

pub returns-in_ok-number-in-Some : goal.returns-in_ok-number-in-Some
returns-in_ok-number-in-Some g c =
    let n = c.in_ok-number-in-Some.ensures in
    let r = c.print_after.ensures in
    record {
      prints = λ t.
          rw c.in-Some.ensures.cases.0
          (prints_after _ _ _ _ _ _ (decimal c.in-Some.first.now) (words_after c.in-Some.others.now) c.print_after.result
          (n.prints t) (r.prints t));
      empty = r.empty;
      later = g.met.S.Sink.goes_on _ _ _ n.later r.later;
      refusals =
          sink_after g.S.Sink c.args.sink.now c.number.new.sink c.print_after.new.sink c.print_after.result
          (g.met.S.Sink.onward _ _ n.later) r.refusals;
    }

pub returns-in-None : goal.returns-in-None
returns-in-None g c = record {
  prints = λ t. none_printed _ c.args.lines.now c.args.list.now c.in-None.ensures.cases;
  empty = tt;
  later = g.met.S.Sink.stays c.args.sink.now;
  refusals = sink_done _ _ _ _ (g.met.S.Sink.onward _ _ (g.met.S.Sink.stays c.args.sink.now));
}
