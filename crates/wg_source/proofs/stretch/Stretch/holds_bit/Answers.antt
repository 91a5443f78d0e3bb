use Rattle.std.proofs.Common.{ap, ◌<◌, length, arith}
use Rattle.std.proofs.lemmas.Bool.{ltb-true}
use Rattle.wg_bits.specs.Bits.{Position, rest}
use Rattle.wg_source.proofs.HeldLemmas.{length-ahead}
use Rattle.wg_source.proofs.stretch.Stretch.holds_bit.Goals as goal

pub returns-clause-room : goal.returns-clause-room
returns-clause-room c = λ yes.
    let some : 0 < c.remaining.result = ltb-true _ _ yes in
    let here = ap (λ (p : Position). length (rest p)) c.cursor-cursor.ensures.position in
    omega (arith, some, here, c.remaining.ensures, length-ahead c.args.self.now c.cursor-cursor.ensures.inside)
