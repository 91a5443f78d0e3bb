use Rattle.std.proofs.Common.{◌≡◌, ◌+◌, ◌-◌, ◌<◌, ℕ, List, Ok, arith, get_or, length, subst, sym}
use Rattle.std.proofs.lemmas.Result.{err_from_is_err_and}
use Rattle.wg_bits.specs.Bits.{bits_of}
use Rattle.wg_graph.specs.Pieces.{pieces}
use Rattle.wg_graph.proofs.Ends.{length-pieces}
use Rattle.wg_grammar.proofs.ErrorLemmas.{fault_weaker}
use Rattle.wg_decoder.specs.Chains.{SpotReads}
use Rattle.wg_decoder.specs.Handed.{page_of}
use Rattle.wg_memory.proofs.RangeLemmas.{error_alone, head_fails, list_alone}
use Rattle.wg_memory.proofs.range.read_page.Goals as goal

pub returns-in_err-back-clause-fault : goal.returns-in_err-back-clause-fault
returns-in_err-back-clause-fault c =
    let q = err_from_is_err_and c.from_residual.result c.from_residual.ensures.1 in
    rw (q.1, q.2) (fault_weaker c.in_err-back.field-0.0 _ _
    (λ f bad. head_fails c.args.params.now (bits_of c.args.graph.now) c.args.places.now (c.args.first + length c.args.ends.now) f bad) c.in_err-back.ensures.fault)

pub returns-then-back-eq0-clause-list : goal.returns-then-back-eq0-clause-list
returns-then-back-eq0-clause-list c =
    list_alone c.args.params.now (bits_of c.args.graph.now) c.args.places.now (c.args.first + length c.args.ends.now) c.in_ok-back.back c.read_record.result c.if-back-eq0.true
    c.in_ok-back.ensures.reads c.read_record.ensures.reads

pub returns-then-back-eq0-clause-fault : goal.returns-then-back-eq0-clause-fault
returns-then-back-eq0-clause-fault c =
    error_alone c.args.params.now (bits_of c.args.graph.now) c.args.places.now (c.args.first + length c.args.ends.now) c.in_ok-back.back c.read_record.result c.if-back-eq0.true
    c.in_ok-back.ensures.reads c.read_record.ensures.fault

pub bounds-depths-index : goal.bounds-depths-index
bounds-depths-index c = omega (arith, c.requires.known.many, length-pieces 0 c.args.ends.now c.args.lists.now, c.if-back-eq0.false, c.if-back-ends.false)

pub read_over-requires-clause-known : goal.read_over-requires-clause-known
read_over-requires-clause-known c =
    let p = c.args.params.now in
    let bits = bits_of c.args.graph.now in
    let places = c.args.places.now in
    let lists = pieces 0 c.args.ends.now c.args.lists.now in
    let i = length c.args.ends.now - c.in_ok-back.back in
    let depth = get_or c.args.depths.now i 0 in
    let lt : i < length lists = omega (arith, length-pieces 0 c.args.ends.now c.args.lists.now, c.if-back-eq0.false, c.if-back-ends.false) in
    let place : c.args.first + i ≡ c.args.first + length c.args.ends.now - c.in_ok-back.back = omega (arith, c.if-back-ends.false) in
    subst (λ (y : ℕ). SpotReads p bits places y (Ok (page_of c.list_at-named.result.now depth))) place
    (subst (λ (l : List ℕ). SpotReads p bits places (c.args.first + i) (Ok (page_of l depth))) (sym c.list_at-named.ensures) (c.requires.known.reads i lt))
