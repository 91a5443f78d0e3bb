use Rattle.std.proofs.Common.{ap, length, arith, take}
use Rattle.std.proofs.lemmas.List.{length-take-le}
use Rattle.wg_bits.proofs.Words.{length-bits_of}
use Rattle.wg_source.proofs.stretch.Stretch.cursor.Goals as goal

pub new-requires : goal.new-requires
new-requires c =
    let s = c.self.inside in
    let v = c.self.invariant in
    omega (arith, ap length c.of.ensures, length-bits_of (take s.length s.bytes), length-take-le s.length s.bytes (omega (arith, v.0)), v.1, v.2)
