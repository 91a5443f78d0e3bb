use Rattle.std.proofs.Common.{arith}
use Rattle.std.proofs.lemmas.Bool.{eqb-true}
use Rattle.wg_arcs.proofs.Starts.{same_at}
use Rattle.wg_arcs.proofs.plain.same_four.Goals as goal

pub returns : goal.returns
returns c = λ t.
    same_at c.args.text.now c.args.other.now c.args.at c.from_le_bytes-here.result c.from_le_bytes-there.result
    (λ k. omega (arith, c.type_inv.text k)) (λ k. omega (arith, c.type_inv.other k)) c.from_le_bytes-here.ensures
    c.from_le_bytes-there.ensures (eqb-true _ _ t)
