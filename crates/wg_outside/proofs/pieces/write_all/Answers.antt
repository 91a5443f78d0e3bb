use Rattle.std.proofs.Common.{◌-◌, ◌++◌, length, take, drop, List, ℕ, arith, ap, ◌∙◌, append_assoc}
use Rattle.wg_outside.proofs.RefusalLemmas.{sink_done, sink_after, sink_exit}
use Rattle.wg_outside.proofs.PieceLemmas.{next_piece}
use Rattle.wg_outside.proofs.pieces.write_all.Goals as goal

pub loop-at-preserved : goal.loop-at-preserved
loop-at-preserved g c =
    let at = c.loop-at.at in
    let count = c.in_ok-at.field-0 in
    let piece = c.args.piece.now in
    let rest = take (length piece - at) (drop at piece) in
    record {
      within = grind arith;
      out = λ t. c.in_ok-at.ensures.ok t ∙ ap (λ (l : List ℕ). l ++ take count rest) (c.loop-at.invariant.out t)
          ∙ append_assoc (g.S.Sink.taken c.args.sink.now) (take at piece) (take count rest)
          ∙ ap (λ (l : List ℕ). g.S.Sink.taken c.args.sink.now ++ l) (next_piece at count piece c.loop-at.invariant.within);
      later = g.met.S.Sink.goes_on _ _ _ c.loop-at.invariant.later c.in_ok-at.ensures.later;
      untouched = λ z. absurd (omega (arith, c.in_ok-at.ensures.count.0));
    }

pub returns-in_err-at-clause-later : goal.returns-in_err-at-clause-later
returns-in_err-at-clause-later g c = g.met.S.Sink.goes_on _ _ _ c.loop-at.invariant.later c.in_err-at.ensures.later

pub returns-in_err-at-clause-refusals : goal.returns-in_err-at-clause-refusals
returns-in_err-at-clause-refusals g c =
    sink_exit _ _ _ _ _ c.from_residual.ensures.1 (sink_after _ _ _ _ _ (g.met.S.Sink.onward _ _ c.loop-at.invariant.later)
    (record { failed = c.in_err-at.ensures.failed; memory = c.in_err-at.ensures.memory; counts = g.met.S.Sink.onward _ _ c.in_err-at.ensures.later }))

pub returns-clause-refusals : goal.returns-clause-refusals
returns-clause-refusals g c = sink_done _ _ _ _ (g.met.S.Sink.onward _ _ c.loop-at.invariant.later)
