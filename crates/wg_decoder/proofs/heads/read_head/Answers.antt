use Rattle.std.proofs.Common.{◌<◌, inl, inr, arith}
use Rattle.std.proofs.lemmas.Result.{err_from_is_err_and}
use Rattle.wg_decoder.specs.Answer.{context_at}
use Rattle.wg_grammar.proofs.ErrorLemmas.{fault_weaker, refusal_weaker}
use Rattle.wg_decoder.proofs.HeadLemmas.{no_reference_stands}
use Rattle.wg_decoder.proofs.heads.read_head.Goals as goal

pub returns-in_err-outdegree-clause-fault : goal.returns-in_err-outdegree-clause-fault
returns-in_err-outdegree-clause-fault g c = λ bits r.
    let p = err_from_is_err_and c.from_residual.result c.from_residual.ensures.1 in
    rw (p.1, p.2) (fault_weaker c.in_err-outdegree.field-0.0 _ _ (λ e h. h (g.B.Behind.pages c.args.behind.now)) (c.in_err-outdegree.ensures.fault bits r))

pub returns-then-outdegree-eq0-clause-stands : goal.returns-then-outdegree-eq0-clause-stands
returns-then-outdegree-eq0-clause-stands g c = λ bits r.
    let behind = g.B.Behind.pages c.args.behind.now in
    let mid = g.S.Source.offset c.outdegree.new.source in
    (mid, c.in_ok-outdegree.ensures.ok bits r behind, no_reference_stands c.args.params.now (context_at c.args.page c.args.arcs_before behind) bits c.in_ok-outdegree.outdegree mid (inl (omega arith)))

pub returns-in_err-reference-clause-later : goal.returns-in_err-reference-clause-later
returns-in_err-reference-clause-later g c = g.met.S.Source.goes_on _ _ _ c.in_ok-outdegree.ensures.later c.in_err-reference.ensures.later

pub returns-in_err-reference-clause-refused : goal.returns-in_err-reference-clause-refused
returns-in_err-reference-clause-refused g c =
    let p = err_from_is_err_and c.from_residual-in_err-reference.result c.from_residual-in_err-reference.ensures.1 in
    rw (p.1, p.2) (refusal_weaker c.in_err-reference.field-0.0 _ _
    (λ x h. g.met.S.Source.still_caused _ _ _ x c.in_ok-outdegree.ensures.later h)
    c.in_err-reference.ensures.refused)

pub returns-in_err-reference-clause-fault : goal.returns-in_err-reference-clause-fault
returns-in_err-reference-clause-fault g c = λ bits r.
    let d = c.in_ok-outdegree.outdegree in
    let some : 0 < d = omega arith in
    let on = g.met.S.Source.same_bits _ _ bits c.in_ok-outdegree.ensures.later r in
    let p = err_from_is_err_and c.from_residual-in_err-reference.result c.from_residual-in_err-reference.ensures.1 in
    rw (p.1, p.2) (fault_weaker c.in_err-reference.field-0.0 _ _
    (λ e h. let x = h c.args.arcs_before d (g.S.Source.offset c.args.source.now) some in
    (inr (d, g.S.Source.offset c.outdegree.new.source, c.in_ok-outdegree.ensures.ok bits r (g.B.Behind.pages c.args.behind.now), x.0), x.1))
    (c.in_err-reference.ensures.fault bits on))

pub returns-clause-later : goal.returns-clause-later
returns-clause-later g c = g.met.S.Source.goes_on _ _ _ c.in_ok-outdegree.ensures.later c.in_ok-reference.ensures.later

pub returns-clause-stands : goal.returns-clause-stands
returns-clause-stands g c = λ bits r.
    let d = c.in_ok-outdegree.outdegree in
    let some : 0 < d = omega arith in
    let on = g.met.S.Source.same_bits _ _ bits c.in_ok-outdegree.ensures.later r in
    (g.S.Source.offset c.outdegree.new.source, c.in_ok-outdegree.ensures.ok bits r (g.B.Behind.pages c.args.behind.now), c.in_ok-reference.ensures.ok bits on c.args.arcs_before d some)
