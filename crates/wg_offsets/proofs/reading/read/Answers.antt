use Rattle.std.proofs.Common.{◌≡◌, ◌∙◌, Err, ap, sym, subst}
use Rattle.wg_bits.specs.Bits.{Position, bits_of}
use Rattle.wg_offsets.specs.declared.error.OffsetsError.{OffsetsError}
use Rattle.wg_offsets.specs.Words.{ReadsOffsets}
use Rattle.wg_offsets.specs.Stages.{IfWord}
use Rattle.wg_offsets.proofs.ErrorLemmas.{word_of_bits}
use Rattle.wg_offsets.proofs.reading.read.Goals as goal

pub returns-in-Err-clause-refused : goal.returns-in-Err-clause-refused
returns-in-Err-clause-refused c =
    let whole : c.new-cursor.result.bits ≡ bits_of c.args.bytes.now = ap (λ (q : Position). q.bits) c.new-cursor.ensures ∙ c.of.ensures in
    let h = c.in-Err.ensures.fault (bits_of c.args.bytes.now) whole in
    subst (λ (e : OffsetsError). IfWord e (λ w. ReadsOffsets c.args.code c.args.n (bits_of c.args.bytes.now) (Err w))) (sym c.error_of.ensures) (word_of_bits c.in-Err.error _ h)
