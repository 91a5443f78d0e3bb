use Rattle.std.proofs.Common.{◌∙◌, ◌++◌, ◌∷◌, [], ℕ, List, Err, ap, sym, append_assoc}
use Rattle.wg_outside.proofs.RefusalLemmas.{sink_after, sink_done, sink_exit}
use Rattle.wg_outcomes.specs.Commands.{spaced}
use Rattle.wg_lines.proofs.NumberLines.{next_printed, next_less}
use Rattle.wg_lookups.proofs.ShownLemmas.{all_printed, prints_exit}
use Rattle.wg_lookups.proofs.shown.write_coming.Goals as goal

pub successors-preserved : goal.successors-preserved
successors-preserved g c =
    let taken = g.S.Sink.taken in
    let i = c.successors.invariant in
    let x = c.in-Some.successor in
    record {
      given = i.given ++ x ∷ [];
      list = i.list ∙ ap (λ (l : List ℕ). i.given ++ l) c.in-Some.ensures.gives ∙ sym (append_assoc i.given (x ∷ []) c.next.new.self.list);
      printed = λ t. next_printed spaced (taken c.args.sink.now) (taken c.successors.sink) (taken c.write_spaced.new.sink) c.args.lines.now c.successors.lines c.write_spaced.new.lines i.given x (i.printed t) (c.in_ok-write_spaced.ensures.prints t);
      later = g.met.S.Sink.goes_on _ _ _ i.later c.in_ok-write_spaced.ensures.later;
    }

pub returns-in_err-write_spaced : goal.returns-in_err-write_spaced
returns-in_err-write_spaced g c =
    let i = c.successors.invariant in
    let e = c.in_err-write_spaced.ensures in
    record {
      prints = λ t.
          prints_exit c.from_residual.result c.in_err-write_spaced.field-0.0 _ _ _ _ _ c.from_residual.ensures.1
          (next_less spaced _ _ _ _ _ i.given c.next.new.self.list c.args.successors.now.list c.in-Some.successor
          (i.list ∙ ap (λ (l : List ℕ). i.given ++ l) c.in-Some.ensures.gives) (i.printed t) (e.prints t));
      later = g.met.S.Sink.goes_on _ _ _ i.later e.later;
      refusals =
          sink_exit g.S.Sink c.args.sink.now c.write_spaced.new.sink c.from_residual.result c.in_err-write_spaced.field-0.0 c.from_residual.ensures.1
          (sink_after g.S.Sink c.args.sink.now c.successors.sink c.write_spaced.new.sink (Err c.in_err-write_spaced.field-0.0)
          (g.met.S.Sink.onward c.args.sink.now c.successors.sink i.later) e.refusals);
    }

pub returns : goal.returns
returns g c =
    let i = c.successors.invariant in
    record {
      prints = λ t. all_printed _ _ _ _ i.given _ c.args.successors.now.list i.list c.in_default.ensures.gives.0 (i.printed t);
      later = i.later;
      refusals = sink_done _ _ _ tt (g.met.S.Sink.onward _ _ i.later);
    }
