use Rattle.std.proofs.Common.{◌<◌, ◌∙◌, Ok, refl, ap, arith}
use Rattle.wg_bits.specs.Bits.{Position, bits_of}
use Rattle.wg_random.proofs.SpotFew.{few_spotted}
use Rattle.wg_random.proofs.chain.spot.Goals as goal

pub returns-in-Ok-clause-few : goal.returns-in-Ok-clause-few
returns-in-Ok-clause-few g c = λ limit has.
    let p = c.args.params.now in
    let lt : c.args.page < p.nodes = omega (arith, c.if-page-nodes.false, c.nodes.ensures.value) in
    let a = c.in-Ok.ensures.answer (bits_of c.args.bytes.now) c.args.offsets.now (ap (λ (q : Position). q.bits) c.new.ensures ∙ c.of.ensures) refl in
    few_spotted p c.nodes.ensures.limits (bits_of c.args.bytes.now) c.args.offsets.now c.args.page c.args.steps.now c.spot_from.new.steps limit (Ok c.in-Ok.list) has
    (lt, a.0, a.1, a.2, a.3, a.4)
