use Rattle.std.proofs.Common.{arith}
use Rattle.wg_bits.proofs.Words.{word_at}
use Rattle.wg_bits.proofs.window.last_word.Goals as goal

pub returns : goal.returns
returns c =
    word_at c.args.bytes.now c.args.at _ _ _ _ _ _ _ _ c.from_be_bytes.result (λ k. omega (arith, c.type_inv.bytes k))
    c.byte_at.ensures c.byte_at-2.ensures c.byte_at-3.ensures c.byte_at-4.ensures
    c.byte_at-5.ensures c.byte_at-6.ensures c.byte_at-7.ensures c.byte_at-8.ensures
    c.from_be_bytes.ensures
