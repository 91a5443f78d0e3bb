use Rattle.std.proofs.Common.{List, ℕ, subst}
use Rattle.wg_lines.specs.Printing.{HasPrinted, HasPrintedLess}
use Rattle.wg_outside.specs.declared.depot.WriteError.{WriteError}
use Rattle.wg_lines.proofs.PrintLemmas.{puts_of_less, puts_in_the_end}
use Rattle.wg_outside.proofs.PutsLemmas.{is_that_err}
use Rattle.wg_outside.proofs.RefusalLemmas.{sink_after, sink_exit}
use Rattle.wg_arcs.specs.Text.{page_lines}
use Rattle.wg_arcs.proofs.writing.write_list.Goals as goal

pub returns-in_err-print_list-clause-puts : goal.returns-in_err-print_list-clause-puts
returns-in_err-print_list-clause-puts g c t =
    rw (is_that_err c.from_residual.result _ c.from_residual.ensures.1)
    (puts_of_less {E = WriteError} _ _ (page_lines c.args.page c.args.list.now) c.in_err-print_list.field-0.0
    (subst (λ (l : List ℕ). HasPrintedLess (g.S.Sink.taken c.args.sink.now) (g.S.Sink.taken c.print_list.new.sink) l (page_lines c.args.page c.args.list.now)) c.new-lines.ensures (c.in_err-print_list.ensures.prints t)))

pub returns-in_err-print_list-clause-refusals : goal.returns-in_err-print_list-clause-refusals
returns-in_err-print_list-clause-refusals g c = sink_exit _ _ _ _ _ c.from_residual.ensures.1 c.in_err-print_list.ensures.refusals

pub returns : goal.returns
returns g c = record {
  puts = λ t.
      puts_in_the_end _ _ _ _ _ c.flush.result
      (subst (λ (l : List ℕ). HasPrinted (g.S.Sink.taken c.args.sink.now) (g.S.Sink.taken c.print_list.new.sink) l (page_lines c.args.page c.args.list.now) c.print_list.new.lines) c.new-lines.ensures (c.in_ok-print_list.ensures.prints t))
      (c.flush.ensures.puts t);
  later = g.met.S.Sink.goes_on _ _ _ c.in_ok-print_list.ensures.later c.flush.ensures.later;
  refusals = sink_after _ _ _ _ _ c.in_ok-print_list.ensures.refusals.counts c.flush.ensures.refusals;
}
