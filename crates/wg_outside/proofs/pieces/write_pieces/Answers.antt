use Rattle.std.proofs.Common.{◌<◌, ◌++◌, ◌∙◌, List, ℕ, ap, sym, subst, arith, add-one, append_assoc, length, take, get_or, Bor, []}
use Rattle.wg_outside.specs.Puts.{Puts}
use Rattle.wg_outside.proofs.RefusalLemmas.{sink_done, sink_after, sink_exit}
use Rattle.wg_outside.proofs.PutsLemmas.{puts_more, puts_front, joined_next, joined_split, joined_now}
use Rattle.wg_outside.proofs.pieces.write_pieces.Goals as goal

pub loop-piece-preserved : goal.loop-piece-preserved
loop-piece-preserved g c =
    let i = c.loop-piece.piece-index in
    let xs = c.args.pieces.now in
    let d : Bor (List ℕ) = record { ref_ptr = (0, 0); now = [] } in
    let lt : i < length xs = omega (arith, c.loop-piece-test.true) in
    record {
      out = λ t. c.in_ok-write_all.ensures.puts t ∙ ap (λ (l : List ℕ). l ++ (get_or xs i d).now) (c.loop-piece.invariant.out t)
          ∙ append_assoc (g.S.Sink.taken c.args.sink.now) (joined_now (take i xs)) (get_or xs i d).now
          ∙ ap (λ (l : List ℕ). g.S.Sink.taken c.args.sink.now ++ l) (rw add-one (sym (joined_next xs i d lt)));
      later = g.met.S.Sink.goes_on _ _ _ c.loop-piece.invariant.later c.in_ok-write_all.ensures.later;
    }

pub returns-in_err-write_all-clause-puts : goal.returns-in_err-write_all-clause-puts
returns-in_err-write_all-clause-puts g c = λ t.
    let i = c.loop-piece.piece-index in
    let xs = c.args.pieces.now in
    let d : Bor (List ℕ) = record { ref_ptr = (0, 0); now = [] } in
    let lt : i < length xs = omega (arith, c.loop-piece-test.true) in
    let split = joined_split xs i d lt in
    let put = c.in_err-write_all.ensures.puts t in
    let piece = puts_front (get_or xs i d).now split.0 (g.S.Sink.taken c.loop-piece.sink) (g.S.Sink.taken c.write_all.new.sink) c.from_residual.result _ c.from_residual.ensures.1 put in
    let more = puts_more (joined_now (take i xs)) ((get_or xs i d).now ++ split.0) (g.S.Sink.taken c.args.sink.now) (g.S.Sink.taken c.loop-piece.sink) (g.S.Sink.taken c.write_all.new.sink) c.from_residual.result (c.loop-piece.invariant.out t) piece in
    subst (λ (l : List ℕ). Puts l (g.S.Sink.taken c.args.sink.now) (g.S.Sink.taken c.write_all.new.sink) c.from_residual.result) (sym split.1) more

pub returns-in_err-write_all-clause-later : goal.returns-in_err-write_all-clause-later
returns-in_err-write_all-clause-later g c = g.met.S.Sink.goes_on _ _ _ c.loop-piece.invariant.later c.in_err-write_all.ensures.later

pub returns-in_err-write_all-clause-refusals : goal.returns-in_err-write_all-clause-refusals
returns-in_err-write_all-clause-refusals g c =
    sink_exit _ _ _ _ _ c.from_residual.ensures.1 (sink_after _ _ _ _ _ (g.met.S.Sink.onward _ _ c.loop-piece.invariant.later) c.in_err-write_all.ensures.refusals)

pub returns-clause-refusals : goal.returns-clause-refusals
returns-clause-refusals g c = sink_done _ _ _ _ (g.met.S.Sink.onward _ _ c.loop-piece.invariant.later)
