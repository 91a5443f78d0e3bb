use Rattle.std.proofs.Common.{◌∙◌, arith}
use Rattle.wg_outside.proofs.PutsLemmas.{is_that_err}
use Rattle.std.proofs.lemmas.Result.{err_from_is_err_and}
use Rattle.wg_grammar.specs.Context.{Known}
use Rattle.wg_decoder.specs.Remembered.{known_of}
use Rattle.wg_grammar.proofs.ErrorLemmas.{fault_weaker, record_fault, record_refusal, refusal_weaker}
use Rattle.wg_random.proofs.SpotLemmas.{length_fault, record_cut, record_fails, whole_reads}
use Rattle.wg_random.proofs.unchecked.read_record.Goals as goal

pub returns-in_err-extent-clause-fault : goal.returns-in_err-extent-clause-fault
returns-in_err-extent-clause-fault g c = λ bits o r l.
    let k : Known = record { list = c.args.named.now; depth = c.args.depth } in
    let q = err_from_is_err_and c.from_residual.result c.from_residual.ensures.1 in
    rw (q.1, q.2) (fault_weaker c.in_err-extent.field-0.0 _ _ (λ f cut. record_cut c.args.params.now bits o c.args.page k f cut.0 cut.1) (c.in_err-extent.ensures.past bits o r l))

pub returns-in_err-decoded-clause-reached : goal.returns-in_err-decoded-clause-reached
returns-in_err-decoded-clause-reached g c = g.met.S.Seek.on_from _ _ _ c.in_ok-extent.ensures.reached (g.met.S.Seek.by_reading _ _ c.in_err-decoded.ensures.later)

pub returns-in_err-decoded-clause-refused : goal.returns-in_err-decoded-clause-refused
returns-in_err-decoded-clause-refused g c =
    let q = err_from_is_err_and c.from_residual-in_err-decoded.result c.from_residual-in_err-decoded.ensures.1 in
    rw (q.1, q.2) (refusal_weaker _ _ _ (λ x h. g.met.S.Seek.cause_stays _ _ _ x c.in_ok-extent.ensures.reached h) (record_refusal c.in_err-decoded.field-0.0 _ c.in_err-decoded.ensures.refused))

pub returns-in_err-decoded-clause-fault : goal.returns-in_err-decoded-clause-fault
returns-in_err-decoded-clause-fault g c = λ bits o r l.
    let k : Known = record { list = c.args.named.now; depth = c.args.depth } in
    let on = g.met.S.Seek.bits_stay _ _ bits c.in_ok-extent.ensures.reached r in
    rw (is_that_err c.from_residual-in_err-decoded.result _ c.from_residual-in_err-decoded.ensures.1) (record_fault c.in_err-decoded.field-0.0 _ _
    (λ e bad. record_fails c.args.params.now bits o c.args.page k (g.S.Source.offset c.go_to_record.new.source) e (c.in_ok-extent.ensures.at ∙ (c.in_ok-extent.ensures.lies o l).0) bad)
    (c.in_err-decoded.ensures.fault bits on))

pub compare-requires-clause-found : goal.compare-requires-clause-found
compare-requires-clause-found g c = omega (arith, g.met.S.Source.onward _ _ c.in_ok-decoded.ensures.later, c.in_ok-extent.ensures.at, c.at.ensures.value)

pub returns-in-Ok-clause-reached : goal.returns-in-Ok-clause-reached
returns-in-Ok-clause-reached g c = g.met.S.Seek.on_from _ _ _ c.in_ok-extent.ensures.reached (g.met.S.Seek.by_reading _ _ c.in_ok-decoded.ensures.later)

pub returns-in-Err-clause-reached : goal.returns-in-Err-clause-reached
returns-in-Err-clause-reached g c = g.met.S.Seek.on_from _ _ _ c.in_ok-extent.ensures.reached (g.met.S.Seek.by_reading _ _ c.in_ok-decoded.ensures.later)

pub returns-in-Ok-clause-reads : goal.returns-in-Ok-clause-reads
returns-in-Ok-clause-reads g c = λ bits o r l.
    let k : Known = record { list = c.args.named.now; depth = c.args.depth } in
    let on = g.met.S.Seek.bits_stay _ _ bits c.in_ok-extent.ensures.reached r in
    let lies = c.in_ok-extent.ensures.lies o l in
    whole_reads c.args.params.now bits o c.args.page k (g.S.Source.offset c.go_to_record.new.source) (g.S.Source.offset c.decode_over.new.source) c.at.result (known_of c.in_ok-decoded.decoded)
    (c.in_ok-extent.ensures.at ∙ lies.0) (c.in_ok-decoded.ensures.reads bits on) c.at.ensures.value (c.in-Ok.ensures.same ∙ lies.1)

pub returns-in-Err-clause-fault : goal.returns-in-Err-clause-fault
returns-in-Err-clause-fault g c = λ bits o r l.
    let k : Known = record { list = c.args.named.now; depth = c.args.depth } in
    let on = g.met.S.Seek.bits_stay _ _ bits c.in_ok-extent.ensures.reached r in
    let lies = c.in_ok-extent.ensures.lies o l in
    let bad = rw (lies.0, lies.1) at c.in-Err.ensures.other in
    length_fault c.args.params.now bits o c.args.page k (g.S.Source.offset c.go_to_record.new.source) (g.S.Source.offset c.decode_over.new.source) c.at.result
    (known_of c.in_ok-decoded.decoded) c.in-Err.fault
    (c.in_ok-extent.ensures.at ∙ lies.0) (c.in_ok-decoded.ensures.reads bits on) c.at.ensures.value bad.0 bad.1
