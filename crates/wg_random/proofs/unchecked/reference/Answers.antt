use Rattle.std.proofs.Common.{◌∙◌}
use Rattle.wg_outside.proofs.PutsLemmas.{is_that_err}
use Rattle.std.proofs.lemmas.Result.{err_from_is_err_and}
use Rattle.std.specs.Prelude.{replicate}
use Rattle.wg_grammar.specs.Context.{no_page}
use Rattle.wg_grammar.proofs.ErrorLemmas.{fault_weaker, record_fault, record_refusal, refusal_weaker}
use Rattle.wg_random.proofs.SpotLemmas.{head_fault, head_reads, page_cut}
use Rattle.wg_random.proofs.unchecked.reference.Goals as goal

pub returns-in_err-go_to_record-clause-fault : goal.returns-in_err-go_to_record-clause-fault
returns-in_err-go_to_record-clause-fault g c = λ bits o r l.
    let q = err_from_is_err_and c.from_residual.result c.from_residual.ensures.1 in
    rw (q.1, q.2) (fault_weaker c.in_err-go_to_record.field-0.0 _ _ (λ f cut. page_cut c.args.params.now bits o c.args.page f cut.0 cut.1) (c.in_err-go_to_record.ensures.past bits o r l))

pub returns-in_err-head-clause-reached : goal.returns-in_err-head-clause-reached
returns-in_err-head-clause-reached g c = g.met.S.Seek.on_from _ _ _ c.in_ok-go_to_record.ensures.reached (g.met.S.Seek.by_reading _ _ c.in_err-head.ensures.later)

pub returns-in_err-head-clause-refused : goal.returns-in_err-head-clause-refused
returns-in_err-head-clause-refused g c =
    let q = err_from_is_err_and c.from_residual-in_err-head.result c.from_residual-in_err-head.ensures.1 in
    rw (q.1, q.2) (refusal_weaker _ _ _ (λ x h. g.met.S.Seek.cause_stays _ _ _ x c.in_ok-go_to_record.ensures.reached h) (record_refusal c.in_err-head.field-0.0 _ c.in_err-head.ensures.refused))

pub returns-in_err-head-clause-fault : goal.returns-in_err-head-clause-fault
returns-in_err-head-clause-fault g c = λ bits o r l.
    let p = c.args.params.now in
    let on = g.met.S.Seek.bits_stay _ _ bits c.in_ok-go_to_record.ensures.reached r in
    rw (is_that_err c.from_residual-in_err-head.result _ c.from_residual-in_err-head.ensures.1) (record_fault c.in_err-head.field-0.0 _ _
    (λ e bad. head_fault p bits o c.args.page (g.S.Source.offset c.go_to_record.new.source) e (c.in_ok-go_to_record.ensures.at ∙ (c.in_ok-go_to_record.ensures.lies o l).0) bad)
    (c.in_err-head.ensures.fault bits on (replicate p.window no_page)))

pub returns-clause-reached : goal.returns-clause-reached
returns-clause-reached g c = g.met.S.Seek.on_from _ _ _ c.in_ok-go_to_record.ensures.reached (g.met.S.Seek.by_reading _ _ c.in_ok-head.ensures.later)

pub returns-clause-reads : goal.returns-clause-reads
returns-clause-reads g c = λ bits o r l.
    let p = c.args.params.now in
    let h = c.in_ok-head.head in
    let on = g.met.S.Seek.bits_stay _ _ bits c.in_ok-go_to_record.ensures.reached r in
    head_reads p bits o c.args.page (g.S.Source.offset c.go_to_record.new.source) h.outdegree h.reference (g.S.Source.offset c.head_from.new.source)
    (c.in_ok-go_to_record.ensures.at ∙ (c.in_ok-go_to_record.ensures.lies o l).0)
    (c.in_ok-head.ensures.stands bits on (replicate p.window no_page))
