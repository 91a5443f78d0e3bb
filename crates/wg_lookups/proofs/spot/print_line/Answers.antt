use Rattle.std.proofs.Common.{List, ℕ, subst}
use Rattle.wg_lines.specs.Printing.{HasPrinted, HasPrintedLess}
use Rattle.wg_lines.proofs.PrintLemmas.{puts_in_the_end, puts_of_less}
use Rattle.wg_outside.proofs.{PutsLemmas.is_that_err, LoadLemmas.risen}
use Rattle.wg_outcomes.specs.{Answers.unput, Commands.successors_line, declared.ending.Ending.Ending}
use Rattle.wg_outcomes.proofs.Statuses.{print_refused}
use Rattle.wg_lookups.proofs.spot.print_line.Goals as goal

pub returns-in_err-write_list : goal.returns-in_err-write_list
returns-in_err-write_list g c =
    let taken = g.O.Sink.taken in
    let line : List ℕ = successors_line c.args.page c.args.list.now in
    let e = c.in_err-write_list.ensures in
    let stop = print_refused _ _ _ _ e.refusals in
    rw (is_that_err c.from_residual.result _ c.from_residual.ensures.1) record {
      puts = λ t.
          puts_of_less {E = Ending} (taken c.args.out.now) (taken c.write_list.new.sink) line (unput c.in_err-write_list.field-0.0)
          (subst (λ (l : List ℕ). HasPrintedLess (taken c.args.out.now) (taken c.write_list.new.sink) l line)
          c.new-lines.ensures (e.prints t));
      only = stop.only;
      failed = stop.failed;
      memory = stop.memory;
      later = e.later;
    }

pub returns : goal.returns
returns g c =
    let taken = g.O.Sink.taken in
    let line : List ℕ = successors_line c.args.page c.args.list.now in
    let l = c.in_ok-write_list.ensures in
    let e = c.print_rest.ensures in
    record {
      puts = λ t.
          puts_in_the_end (taken c.args.out.now) (taken c.write_list.new.sink) (taken c.print_rest.new.out) line c.write_list.new.lines c.print_rest.result
          (subst (λ (l : List ℕ). HasPrinted (taken c.args.out.now) (taken c.write_list.new.sink) l line c.write_list.new.lines)
          c.new-lines.ensures (l.prints t))
          (e.puts t);
      only = e.refusals.only;
      failed = λ fault. risen _ _ _ (g.met.O.Sink.onward _ _ l.later).0 (e.refusals.failed fault);
      memory = λ want. risen _ _ _ (g.met.O.Sink.onward _ _ l.later).1 (e.refusals.memory want);
      later = g.met.O.Sink.goes_on _ _ _ l.later e.later;
    }
