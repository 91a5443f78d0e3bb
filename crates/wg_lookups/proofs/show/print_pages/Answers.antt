use Rattle.std.proofs.Common.{◌≡◌, ◌+◌, ◌∙◌, [], List, ℕ, ap, arith, map, subst, sum_by, take}
use Rattle.std.proofs.{lemmas.List.take_all, lemmas.List.Sums.sum_by_more, lemmas.List.Sums.sum_by_more_le}
use Rattle.wg_outside.specs.Puts.{joined}
use Rattle.wg_lines.specs.Printing.{HasPrinted}
use Rattle.wg_outside.proofs.PutsLemmas.{is_that_err, rose_on}
use Rattle.wg_lines.proofs.PrintLemmas.{puts_of_less, puts_in_the_end}
use Rattle.wg_outcomes.specs.{Commands.line_in, Commands.successors_lines, declared.ending.Ending.Ending}
use Rattle.wg_lines.proofs.NumberLines.{line_printed, line_less}
use Rattle.wg_lookups.specs.Showing.{chain_records}
use Rattle.wg_lookups.proofs.ShownLemmas.{if_always}
use Rattle.wg_lookups.proofs.show.print_pages.Goals as goal

pub loop-page-preserved : goal.loop-page-preserved
loop-page-preserved g c = record {
  printed = λ t a read.
      let taken = g.O.Sink.taken in
      line_printed (line_in a.graph) (taken c.args.out.now) (taken c.loop-page.out) (taken c.show_page.new.out) [] c.loop-page.lines c.show_page.new.lines c.args.pages.now c.loop-page.page-index c.loop-page-test.true
      (c.loop-page.invariant.printed t a read) (c.in_ok-show_page.ensures.line.prints t a read);
  later = g.met.O.Sink.goes_on _ _ _ c.loop-page.invariant.later c.in_ok-show_page.ensures.line.later;
  opened = λ r. omega (arith, c.loop-page.invariant.opened r, c.in_ok-show_page.ensures.each r, sum_by_more (chain_records r.records) c.args.pages.now c.loop-page.page-index 0 c.loop-page-test.true);
}

pub returns-in_err-show_page : goal.returns-in_err-show_page
returns-in_err-show_page g c =
    let taken = g.O.Sink.taken in
    let faults = g.O.Sink.faults in
    let i = c.loop-page.invariant in
    let n = c.in_err-show_page.ensures in
    let pages = c.args.pages.now in
    let out = c.show_page.new.out in
    rw (is_that_err c.from_residual.result _ c.from_residual.ensures.1) record {
      puts = λ t a read.
          puts_of_less {E = Ending} (taken c.args.out.now) (taken out) (successors_lines a.graph pages) c.in_err-show_page.field-0.0
          (line_less (line_in a.graph) (taken c.args.out.now) (taken c.loop-page.out) (taken out) [] c.loop-page.lines pages c.loop-page.page-index c.loop-page-test.true (i.printed t a read) (n.line.prints t a read));
      only = n.line.only;
      failed = λ is. rose_on (faults c.args.out.now) (faults c.loop-page.out) (faults out) (faults out) (g.met.O.Sink.onward _ _ i.later).0 (n.line.failed is) (omega arith);
      later = g.met.O.Sink.goes_on _ _ _ i.later n.line.later;
      opens = record {
        each = λ r. tt;
        most = λ r. omega (arith, i.opened r, n.most r, sum_by_more_le (chain_records r.records) pages c.loop-page.page-index 0 c.loop-page-test.true);
      };
    }

pub returns : goal.returns
returns g c =
    let taken = g.O.Sink.taken in
    let faults = g.O.Sink.faults in
    let i = c.loop-page.invariant in
    let n = c.print_rest.ensures in
    let pages = c.args.pages.now in
    let out = c.print_rest.new.out in
    let all : take c.loop-page.page-index pages ≡ pages = take_all c.loop-page.page-index pages (omega (arith, c.loop-page-test.false)) in
    record {
      puts = λ t a read.
          puts_in_the_end (taken c.args.out.now) (taken c.loop-page.out) (taken out) (successors_lines a.graph pages) c.loop-page.lines c.print_rest.result
          (subst (λ (ps : List ℕ). HasPrinted (taken c.args.out.now) (taken c.loop-page.out) [] (joined (map (line_in a.graph) ps)) c.loop-page.lines) all (i.printed t a read)) (n.puts t);
      only = n.refusals.only;
      failed = λ is. rose_on (faults c.args.out.now) (faults c.loop-page.out) (faults out) (faults out) (g.met.O.Sink.onward _ _ i.later).0 (n.refusals.failed is) (omega arith);
      later = g.met.O.Sink.goes_on _ _ _ i.later n.later;
      opens = record {
        each = λ r. if_always c.print_rest.result (i.opened r ∙ ap (λ (ps : List ℕ). c.args.steps.now + sum_by (chain_records r.records) ps) all);
        most = λ r. omega (arith, i.opened r, ap (λ (ps : List ℕ). sum_by (chain_records r.records) ps) all);
      };
    }
