use Rattle.std.proofs.Common.{◌≡◌, [], map, take, ℕ, List, sym, subst, append-nil, arith}
use Rattle.std.proofs.lemmas.List.{take_all}
use Rattle.wg_outside.proofs.RefusalLemmas.{sink_after, sink_exit}
use Rattle.wg_outside.proofs.PutsLemmas.{is_that_err}
use Rattle.wg_lines.proofs.PrintLemmas.{less_before, puts_of_less, puts_in_the_end}
use Rattle.wg_lines.specs.Printing.{HasPrinted, HasPrintedLess}
use Rattle.wg_outside.specs.Puts.{joined}
use Rattle.wg_outside.specs.declared.depot.WriteError.{WriteError}
use Rattle.wg_ascii.specs.Text.{nodes_line, list_line, text_of_graph}
use Rattle.wg_ascii.proofs.Texts.{texts, item_printed, item_less}
use Rattle.wg_ascii.proofs.writing.write.Goals as goal

pub loop-page-init : goal.loop-page-init
loop-page-init g c = record {
  printed = λ t.
      let taken = g.S.Sink.taken in
      let n = c.args.graph.now.nodes in
      let first : HasPrinted (taken c.args.sink.now) (taken c.print_nodes.new.sink) [] (nodes_line n) c.print_nodes.new.lines =
      subst (λ (w : List ℕ). HasPrinted (taken c.args.sink.now) (taken c.print_nodes.new.sink) w (nodes_line n) c.print_nodes.new.lines) c.new-lines.ensures
      (subst (λ (k : ℕ). HasPrinted (taken c.args.sink.now) (taken c.print_nodes.new.sink) c.new-lines.result (nodes_line k) c.print_nodes.new.lines) c.nodes.ensures.value (c.in_ok-print_nodes.ensures.prints t)) in
      subst (λ (l : List ℕ). HasPrinted (taken c.args.sink.now) (taken c.print_nodes.new.sink) [] l c.print_nodes.new.lines) (sym (append-nil (nodes_line n))) first;
  later = c.in_ok-print_nodes.ensures.later;
}

pub loop-page-preserved : goal.loop-page-preserved
loop-page-preserved g c =
    let n = c.nodes-page-end.ensures.proper.counted in
    record {
      printed = λ t.
          let taken = g.S.Sink.taken in
          item_printed list_line (taken c.args.sink.now) (taken c.loop-page.sink) (taken c.print_list.new.sink) [] c.loop-page.lines c.print_list.new.lines (nodes_line c.args.graph.now.nodes) c.args.graph.now.lists c.loop-page.page [] (omega arith) (c.loop-page.invariant.printed t)
          (subst (λ (vs : List ℕ). HasPrinted (taken c.loop-page.sink) (taken c.print_list.new.sink) c.loop-page.lines (list_line vs) c.print_list.new.lines) c.list.ensures.value (c.in_ok-print_list.ensures.prints t));
      later = g.met.S.Sink.goes_on _ _ _ c.loop-page.invariant.later c.in_ok-print_list.ensures.later;
    }

pub returns-in_err-print_nodes-clause-puts : goal.returns-in_err-print_nodes-clause-puts
returns-in_err-print_nodes-clause-puts g c t =
    let taken = g.S.Sink.taken in
    let n = c.args.graph.now.nodes in
    let first : HasPrintedLess (taken c.args.sink.now) (taken c.print_nodes.new.sink) [] (nodes_line n) =
    subst (λ (w : List ℕ). HasPrintedLess (taken c.args.sink.now) (taken c.print_nodes.new.sink) w (nodes_line n)) c.new-lines.ensures
    (subst (λ (k : ℕ). HasPrintedLess (taken c.args.sink.now) (taken c.print_nodes.new.sink) c.new-lines.result (nodes_line k)) c.nodes.ensures.value (c.in_err-print_nodes.ensures.prints t)) in
    rw (is_that_err c.from_residual.result _ c.from_residual.ensures.1)
    (puts_of_less {E = WriteError} (taken c.args.sink.now) (taken c.print_nodes.new.sink) (text_of_graph c.args.graph.now) c.in_err-print_nodes.field-0.0
    (less_before (taken c.args.sink.now) (taken c.print_nodes.new.sink) [] (nodes_line n) (joined (map list_line c.args.graph.now.lists)) first))

pub returns-in_err-print_list : goal.returns-in_err-print_list
returns-in_err-print_list g c = record {
  puts = λ t.
      let n = c.nodes-page-end.ensures.proper.counted in
      let taken = g.S.Sink.taken in
      rw (is_that_err c.from_residual-in_err-print_list.result _ c.from_residual-in_err-print_list.ensures.1)
      (puts_of_less {E = WriteError} (taken c.args.sink.now) (taken c.print_list.new.sink) (text_of_graph c.args.graph.now) c.in_err-print_list.field-0.0
      (item_less list_line (taken c.args.sink.now) (taken c.loop-page.sink) (taken c.print_list.new.sink) [] c.loop-page.lines (nodes_line c.args.graph.now.nodes) c.args.graph.now.lists c.loop-page.page [] (omega arith) (c.loop-page.invariant.printed t)
      (subst (λ (vs : List ℕ). HasPrintedLess (taken c.loop-page.sink) (taken c.print_list.new.sink) c.loop-page.lines (list_line vs)) c.list.ensures.value (c.in_err-print_list.ensures.prints t))));
  later = g.met.S.Sink.goes_on _ _ _ c.loop-page.invariant.later c.in_err-print_list.ensures.later;
  refusals =
      sink_exit _ _ _ _ _ c.from_residual-in_err-print_list.ensures.1 (sink_after _ _ _ _ _ (g.met.S.Sink.onward _ _ c.loop-page.invariant.later) c.in_err-print_list.ensures.refusals);
}

pub returns : goal.returns
returns g c = record {
  puts = λ t.
      let n = c.nodes-page-end.ensures.proper.counted in
      let taken = g.S.Sink.taken in
      let all : take c.loop-page.page c.args.graph.now.lists ≡ c.args.graph.now.lists = take_all c.loop-page.page c.args.graph.now.lists (omega arith) in
      puts_in_the_end (taken c.args.sink.now) (taken c.loop-page.sink) (taken c.flush.new.sink) (text_of_graph c.args.graph.now) c.loop-page.lines c.flush.result
      (subst (λ (ls : List (List ℕ)). HasPrinted (taken c.args.sink.now) (taken c.loop-page.sink) [] (texts list_line (nodes_line c.args.graph.now.nodes) ls) c.loop-page.lines) all (c.loop-page.invariant.printed t))
      (c.flush.ensures.puts t);
  later = g.met.S.Sink.goes_on _ _ _ c.loop-page.invariant.later c.flush.ensures.later;
  refusals = sink_after _ _ _ _ _ (g.met.S.Sink.onward _ _ c.loop-page.invariant.later) c.flush.ensures.refusals;
}
