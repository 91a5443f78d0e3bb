use Rattle.std.proofs.Common.{◌≡◌, ◌<◌, ◌∙◌, [], take, get_or, length, ℕ, List, subst, arith}
use Rattle.std.proofs.lemmas.List.{take_all}
use Rattle.wg_outside.proofs.{PutsLemmas.is_that_err, RefusalLemmas.sink_after, RefusalLemmas.sink_exit}
use Rattle.wg_outside.specs.declared.depot.WriteError.{WriteError}
use Rattle.wg_lines.specs.Printing.{HasPrinted, HasPrintedLess}
use Rattle.wg_lines.proofs.PrintLemmas.{puts_of_less, puts_in_the_end}
use Rattle.wg_outcomes.specs.Ranked.{rank_line, rank_lines}
use Rattle.wg_lines.proofs.NumberLines.{line_printed, line_less}
use Rattle.wg_queries.proofs.print.write_ranking.Goals as goal

pub loop-place-preserved : goal.loop-place-preserved
loop-place-preserved g c =
    let l = c.loop-place in
    let s = c.args.first.now in
    let first : List ℕ = s.pages in
    let inside : l.place < length first = omega (arith, c.len-place-end.ensures, c.loop-place-test.true) in
    let here : c.as_bytes.result.now ≡ rank_line s (get_or first l.place 0) =
    c.as_bytes.ensures ∙ c.rank_line-line.ensures.text in
    record {
      printed = λ t.
          line_printed (rank_line s) (g.S.Sink.taken c.args.sink.now) (g.S.Sink.taken l.sink) (g.S.Sink.taken c.text.new.sink) [] l.lines c.text.new.self first l.place inside (l.invariant.printed t)
          (subst (λ (p : List ℕ). HasPrinted (g.S.Sink.taken l.sink) (g.S.Sink.taken c.text.new.sink) l.lines p c.text.new.self) here (c.in_ok-text.ensures.prints t));
      later = g.met.S.Sink.goes_on _ _ _ c.loop-place.invariant.later c.in_ok-text.ensures.later;
    }

pub returns-in_err-text-clause-puts : goal.returns-in_err-text-clause-puts
returns-in_err-text-clause-puts g c t =
    let l = c.loop-place in
    let s = c.args.first.now in
    let first : List ℕ = s.pages in
    let inside : l.place < length first = omega (arith, c.len-place-end.ensures, c.loop-place-test.true) in
    let here : c.as_bytes.result.now ≡ rank_line s (get_or first l.place 0) =
    c.as_bytes.ensures ∙ c.rank_line-line.ensures.text in
    rw (is_that_err c.from_residual.result _ c.from_residual.ensures.1)
    (puts_of_less {E = WriteError} (g.S.Sink.taken c.args.sink.now) (g.S.Sink.taken c.text.new.sink) (rank_lines s first) c.in_err-text.field-0.0
    (line_less (rank_line s) (g.S.Sink.taken c.args.sink.now) (g.S.Sink.taken l.sink) (g.S.Sink.taken c.text.new.sink) [] l.lines first l.place inside (l.invariant.printed t)
    (subst (λ (p : List ℕ). HasPrintedLess (g.S.Sink.taken l.sink) (g.S.Sink.taken c.text.new.sink) l.lines p) here (c.in_err-text.ensures.prints t))))

pub returns-clause-puts : goal.returns-clause-puts
returns-clause-puts g c t =
    let l = c.loop-place in
    let s = c.args.first.now in
    let first : List ℕ = s.pages in
    let all : take l.place first ≡ first = take_all l.place first (omega (arith, c.len-place-end.ensures, c.loop-place-test.false)) in
    puts_in_the_end (g.S.Sink.taken c.args.sink.now) (g.S.Sink.taken l.sink) (g.S.Sink.taken c.flush.new.sink) (rank_lines s first) l.lines c.flush.result
    (subst (λ (ps : List ℕ). HasPrinted (g.S.Sink.taken c.args.sink.now) (g.S.Sink.taken l.sink) [] (rank_lines s ps) l.lines) all (l.invariant.printed t))
    (c.flush.ensures.puts t)

pub returns-in_err-text-clause-later : goal.returns-in_err-text-clause-later
returns-in_err-text-clause-later g c = g.met.S.Sink.goes_on _ _ _ c.loop-place.invariant.later c.in_err-text.ensures.later

pub returns-in_err-text-clause-refusals : goal.returns-in_err-text-clause-refusals
returns-in_err-text-clause-refusals g c =
    sink_exit _ _ _ _ _ c.from_residual.ensures.1 (sink_after _ _ _ _ _ (g.met.S.Sink.onward _ _ c.loop-place.invariant.later) c.in_err-text.ensures.refusals)

pub returns-clause-later : goal.returns-clause-later
returns-clause-later g c = g.met.S.Sink.goes_on _ _ _ c.loop-place.invariant.later c.flush.ensures.later

pub returns-clause-refusals : goal.returns-clause-refusals
returns-clause-refusals g c = sink_after _ _ _ _ _ (g.met.S.Sink.onward _ _ c.loop-place.invariant.later) c.flush.ensures.refusals
