use Rattle.std.proofs.Common.{refl}
use Rattle.std.proofs.lemmas.Result.{err_from_is_err_and}
use Rattle.wg_bits.specs.Bits.{bits_of}
use Rattle.wg_decoder.specs.Handed.{page_of}
use Rattle.wg_decoder.specs.Remembered.{known_of}
use Rattle.wg_grammar.proofs.ErrorLemmas.{fault_weaker}
use Rattle.wg_random.proofs.SpotLemmas.{length_fault, record_cut}
use Rattle.wg_memory.proofs.records.read_record.Goals as goal

pub returns-in_err-source-clause-fault : goal.returns-in_err-source-clause-fault
returns-in_err-source-clause-fault c =
    let q = err_from_is_err_and c.from_residual.result c.from_residual.ensures.1 in
    rw (q.1, q.2) (fault_weaker c.in_err-source.field-0.0 _ _
    (λ f cut. record_cut c.args.params.now (bits_of c.args.graph.now) c.args.places.now c.args.page (page_of c.args.named.now c.args.depth) f cut.0 cut.1) c.in_err-source.ensures.past)

pub returns-then-end-next-clause-fault : goal.returns-then-end-next-clause-fault
returns-then-end-next-clause-fault c =
    let bits = bits_of c.args.graph.now in
    let s = c.in_ok-source in
    length_fault c.args.params.now bits c.args.places.now c.args.page (page_of c.args.named.now c.args.depth) s.source.source.at c.decode_over.new.source.source.at c.at-end.result
    (known_of c.in_ok-decoded.decoded) _ s.ensures.at (c.in_ok-decoded.ensures.reads bits s.ensures.bits) c.at-end.ensures.value c.if-end-next.true refl
