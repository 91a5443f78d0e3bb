use Rattle.std.proofs.Common.{◌<◌, ℕ, Ok, Err, arith, refl, subst}
use Rattle.std.proofs.lemmas.Result.{err_from_is_err_and}
use Rattle.wg_bits.specs.Bits.{bits_of}
use Rattle.wg_grammar.proofs.ErrorLemmas.{fault_weaker}
use Rattle.wg_decoder.specs.Chains.{HeadReads}
use Rattle.wg_memory.proofs.RangeLemmas.{head_fails, spot_down, spot_end, spot_over}
use Rattle.wg_memory.proofs.range.depth_of.Goals as goal

pub returns-in_err-back-clause-fault : goal.returns-in_err-back-clause-fault
returns-in_err-back-clause-fault c =
    let q = err_from_is_err_and c.from_residual.result c.from_residual.ensures.1 in
    rw (q.1, q.2) (fault_weaker c.in_err-back.field-0.0 _ _
    (λ f bad. c.down.invariant.up f (head_fails c.args.params.now (bits_of c.args.graph.now) c.args.places.now c.down.here f bad)) c.in_err-back.ensures.fault)

pub returns-then-back-eq0-clause-depth : goal.returns-then-back-eq0-clause-depth
returns-then-back-eq0-clause-depth c = λ k reads.
    let j = c.down.invariant.deep k reads in
    let head = subst (λ (n : ℕ). HeadReads c.args.params.now (bits_of c.args.graph.now) c.args.places.now c.down.here (Ok n)) c.if-back-eq0.true c.in_ok-back.ensures.reads in
    omega (arith, j.2, spot_end c.args.params.now c.nodes.ensures.limits (bits_of c.args.graph.now) c.args.places.now c.down.here j.0 head j.1)

pub down-preserved : goal.down-preserved
down-preserved c =
    let p = c.args.params.now in
    let bits = bits_of c.args.graph.now in
    let places = c.args.places.now in
    let back = c.in_ok-back.back in
    let some : 0 < back = omega (arith, c.if-back-eq0.false) in
    let head = c.in_ok-back.ensures.reads in
    record {
      near = omega (arith, some, c.in_ok-back.ensures.near, c.down.invariant.near);
      deep = λ k reads.
          let j = c.down.invariant.deep k reads in
          let i = spot_down p c.nodes.ensures.limits bits places c.down.here back j.0 some head j.1 in
          (i.0, i.1, omega (arith, j.2, i.2));
      up = λ f reads. c.down.invariant.up f (spot_over p bits places c.down.here back (Err f) (Err f) some head reads refl);
    }
