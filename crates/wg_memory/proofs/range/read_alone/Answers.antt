use Rattle.std.proofs.Common.{◌-◌, Err, refl}
use Rattle.std.proofs.lemmas.Result.{err_from_is_err_and}
use Rattle.wg_bits.specs.Bits.{bits_of}
use Rattle.wg_grammar.proofs.ErrorLemmas.{fault_weaker}
use Rattle.wg_memory.proofs.RangeLemmas.{known_by, spot_over}
use Rattle.wg_memory.proofs.range.read_alone.Goals as goal

pub returns-in_err-depth-clause-fault : goal.returns-in_err-depth-clause-fault
returns-in_err-depth-clause-fault c =
    let q = err_from_is_err_and c.from_residual.result c.from_residual.ensures.1 in
    rw (q.1, q.2) (fault_weaker c.in_err-depth.field-0.0 _ _
    (λ f bad. spot_over c.args.params.now (bits_of c.args.graph.now) c.args.places.now c.args.page c.args.back (Err f) (Err f) c.requires.back c.requires.head bad refl) c.in_err-depth.ensures.fault)

pub returns-in_err-list-clause-fault : goal.returns-in_err-list-clause-fault
returns-in_err-list-clause-fault c =
    let q = err_from_is_err_and c.from_residual-in_err-list.result c.from_residual-in_err-list.ensures.1 in
    rw (q.1, q.2) (fault_weaker c.in_err-list.field-0.0 _ _
    (λ f bad. spot_over c.args.params.now (bits_of c.args.graph.now) c.args.places.now c.args.page c.args.back (Err f) (Err f) c.requires.back c.requires.head bad refl) c.in_err-list.ensures.fault)

pub read_over-requires-clause-known : goal.read_over-requires-clause-known
read_over-requires-clause-known c =
    known_by c.args.params.now (bits_of c.args.graph.now) c.args.places.now (c.args.page - c.args.back) c.in_ok-list.list c.as_slice-named.result.now c.in_ok-depth.depth
    c.as_slice-named.ensures c.in_ok-list.ensures.list c.in_ok-depth.ensures.depth
