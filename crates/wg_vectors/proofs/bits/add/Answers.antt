use Rattle.std.proofs.Common.{◌+◌, ◌*◌, ◌∙◌, ◌++◌, ℕ, List, ap, arith}
use mir.Val.{bool_byte}
use Rattle.wg_bits.specs.Bits.{bits_of, low_bits}
use Rattle.wg_vectors.proofs.Spelling.{bit_behind, byte_more}
use Rattle.wg_vectors.proofs.bits.add.Goals as goal

pub returns-in_ok-push-clause-bits : goal.returns-in_ok-push-clause-bits
returns-in_ok-push-clause-bits c =
    let more = 2 * c.args.part.now + bool_byte c.args.bit in
    ap (λ (l : List ℕ). bits_of l ++ low_bits 0 0) c.in_ok-push.ensures.items ∙ byte_more c.args.bytes.now.items more
    ∙ ap (λ (n : ℕ). bits_of c.args.bytes.now.items ++ low_bits n more) (omega (arith, c.if-fill-eq7.true))
    ∙ bit_behind c.args.bytes.now.items c.args.fill.now c.args.part.now c.args.bit

pub returns-else-fill-eq7-clause-bits : goal.returns-else-fill-eq7-clause-bits
returns-else-fill-eq7-clause-bits c = bit_behind c.args.bytes.now.items c.args.fill.now c.args.part.now c.args.bit
