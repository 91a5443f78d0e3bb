use Rattle.std.proofs.Common.{◌≡◌, ◌++◌, ◌∙◌, take, ℕ, List, Err, ap, subst, arith}
use Rattle.std.proofs.lemmas.List.{take_all}
use Rattle.wg_outside.proofs.RefusalLemmas.{sink_done, sink_after, sink_exit}
use Rattle.wg_outside.specs.Puts.{Puts}
use Rattle.wg_outside.specs.declared.depot.WriteError.{WriteError}
use Rattle.wg_arcs.specs.Text.{page_lines, lines_from}
use Rattle.wg_arcs.proofs.Texts.{page_out, page_cut_off}
use Rattle.wg_arcs.proofs.writing.write.Goals as goal

pub loop-page-preserved : goal.loop-page-preserved
loop-page-preserved g c =
    let taken = g.S.Sink.taken in
    record {
      out = λ t.
          page_out (taken c.args.sink.now) _ _ c.args.graph.now c.loop-page.page (omega arith) (c.loop-page.invariant.out t)
          (subst (λ (vs : List ℕ). taken c.write_list.new.sink ≡ taken c.loop-page.sink ++ page_lines c.loop-page.page vs) c.list.ensures.value (c.in_ok-write_list.ensures.puts t));
      later = g.met.S.Sink.goes_on _ _ _ c.loop-page.invariant.later c.in_ok-write_list.ensures.later;
    }

pub returns-in_err-write_list : goal.returns-in_err-write_list
returns-in_err-write_list g c = record {
  puts = λ t.
      let taken = g.S.Sink.taken in
      let e : WriteError = c.in_err-write_list.field-0.0 in
      page_cut_off (taken c.args.sink.now) (taken c.loop-page.sink) (taken c.write_list.new.sink) c.args.graph.now c.loop-page.page c.from_residual.result e (omega arith) (c.loop-page.invariant.out t) c.from_residual.ensures.1
      (subst (λ (vs : List ℕ). Puts {E = WriteError} (page_lines c.loop-page.page vs) (taken c.loop-page.sink) (taken c.write_list.new.sink) (Err e)) c.list.ensures.value (c.in_err-write_list.ensures.puts t));
  later = g.met.S.Sink.goes_on _ _ _ c.loop-page.invariant.later c.in_err-write_list.ensures.later;
  refusals =
      sink_exit _ _ _ _ _ c.from_residual.ensures.1 (sink_after _ _ _ _ _ (g.met.S.Sink.onward _ _ c.loop-page.invariant.later) c.in_err-write_list.ensures.refusals);
}

pub returns-clause-puts : goal.returns-clause-puts
returns-clause-puts g c t =
    let all : take c.loop-page.page c.args.graph.now.lists ≡ c.args.graph.now.lists = take_all c.loop-page.page c.args.graph.now.lists (omega arith) in
    c.loop-page.invariant.out t ∙ ap (λ (ls : List (List ℕ)). g.S.Sink.taken c.args.sink.now ++ lines_from 0 ls) all

pub returns-clause-refusals : goal.returns-clause-refusals
returns-clause-refusals g c = sink_done _ _ _ _ (g.met.S.Sink.onward _ _ c.loop-page.invariant.later)
