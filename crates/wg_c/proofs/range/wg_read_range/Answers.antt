use Rattle.std.proofs.Common.{◌+◌, inr, length, subst}
use Rattle.wg_params.specs.Parameters.{Parameters}
use Rattle.wg_bits.specs.Bits.{bits_of}
use Rattle.wg_memory.specs.Many.{end_before}
use Rattle.wg_c.specs.Many.{Ends}
use Rattle.wg_c.proofs.range.wg_read_range.Goals as goal

pub returns-in-Err-clause-stops : goal.returns-in-Err-clause-stops
returns-in-Err-clause-stops c =
    let bits = bits_of c.args.graph.now in
    let page = c.args.first + c.in-Err.stopped.done in
    let used = end_before c.read_range.new.ends c.in-Err.stopped.done in
    let room = length c.read_range.new.out in
    inr (inr (subst (λ (q : Parameters). Ends q bits c.args.places.now page used room c.status_of.new.fault c.status_of.result) c.in-Some.ensures.some
    (c.status_of.ensures.ends c.in-Some.read bits c.args.places.now page used room c.in-Err.ensures.stops)))
