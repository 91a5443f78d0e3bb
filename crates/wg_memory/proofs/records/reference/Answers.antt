use Rattle.std.specs.Prelude.{replicate}
use Rattle.std.proofs.lemmas.Result.{err_from_is_err_and}
use Rattle.wg_outside.proofs.PutsLemmas.{is_that_err}
use Rattle.wg_bits.specs.Bits.{bits_of}
use Rattle.wg_grammar.specs.Context.{no_page}
use Rattle.wg_grammar.proofs.ErrorLemmas.{fault_weaker, record_fault}
use Rattle.wg_random.proofs.SpotLemmas.{head_fault, head_reads, page_cut}
use Rattle.wg_memory.proofs.records.reference.Goals as goal

pub returns-in_err-source-clause-fault : goal.returns-in_err-source-clause-fault
returns-in_err-source-clause-fault c =
    let q = err_from_is_err_and c.from_residual.result c.from_residual.ensures.1 in
    rw (q.1, q.2) (fault_weaker c.in_err-source.field-0.0 _ _
    (λ f cut. page_cut c.args.params.now (bits_of c.args.graph.now) c.args.places.now c.args.page f cut.0 cut.1) c.in_err-source.ensures.past)

pub returns-in_err-head-clause-fault : goal.returns-in_err-head-clause-fault
returns-in_err-head-clause-fault c =
    let p = c.args.params.now in
    let bits = bits_of c.args.graph.now in
    let s = c.in_ok-source in
    rw (is_that_err c.from_residual-in_err-head.result _ c.from_residual-in_err-head.ensures.1) (record_fault c.in_err-head.field-0.0 _ _
    (λ e bad. head_fault p bits c.args.places.now c.args.page s.source.source.at e s.ensures.at bad) (c.in_err-head.ensures.fault bits s.ensures.bits (replicate p.window no_page)))

pub returns-clause-reads : goal.returns-clause-reads
returns-clause-reads c =
    let p = c.args.params.now in
    let bits = bits_of c.args.graph.now in
    let s = c.in_ok-source in
    let h = c.in_ok-head.head in
    head_reads p bits c.args.places.now c.args.page s.source.source.at h.outdegree h.reference c.head_from.new.source.source.at s.ensures.at
    (c.in_ok-head.ensures.stands bits s.ensures.bits (replicate p.window no_page))
