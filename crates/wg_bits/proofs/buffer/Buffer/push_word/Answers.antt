use Rattle.std.proofs.Common.{◌+◌, ◌++◌, length, ap, ◌∙◌, arith}
use Rattle.std.proofs.lemmas.Slice.{take-put_mid}
use Rattle.wg_bits.specs.Bits.{bits_of}
use Rattle.wg_bits.proofs.Writes.{bits_of-append, word_bytes}
use Rattle.wg_bits.proofs.buffer.Buffer.push_word.Goals as goal

pub returns-clause-bits : goal.returns-clause-bits
returns-clause-bits c =
    ap bits_of (take-put_mid c.self.inside.len _ c.self.inside.bytes c.copy_from_slice.new.self (c.self.inside.len + 8) (omega (arith, ap length (c.copy_from_slice.ensures.after ∙ c.to_be_bytes.ensures))) (omega arith))
    ∙ bits_of-append _ c.copy_from_slice.new.self
    ∙ ap (λ z. bits_of z ++ bits_of c.copy_from_slice.new.self) c.self.view_is
    ∙ ap (λ z. bits_of c.args.self.now ++ z) (ap bits_of (c.copy_from_slice.ensures.after ∙ c.to_be_bytes.ensures) ∙ word_bytes c.args.word (omega arith))
