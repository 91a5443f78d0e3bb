use Rattle.std.proofs.Common.{◌∙◌, ◌++◌, ℕ, List, sym, ap, arith}
use Rattle.wg_bits.specs.Bits.{bits_of, low_bits}
use Rattle.wg_bits.proofs.Writes.{empty_writer}
use Rattle.wg_vectors.proofs.Spelling.{blank_more, letter_taken, end_whole, end_filled}
use Rattle.wg_vectors.proofs.bits.bytes_of.Goals as goal
use Rattle.wg_vectors.proofs.bits.bytes_of.Goals.{then-letter-ne32+in_ok-add, else-letter-ne32, then-fill-gt0+in_ok-push, else-fill-gt0}

pub loop-letter-init : goal.loop-letter-init
loop-letter-init c = record {
  fill = omega arith;
  part = omega arith;
  bits = ap (λ (l : List ℕ). bits_of l ++ low_bits 0 0) c.new-bytes.ensures.items ∙ empty_writer;
}

pub loop-letter-preserved : goal.loop-letter-preserved
loop-letter-preserved c =
    let l = c.loop-letter in
    let i = l.invariant in
    let xs = c.as_bytes-letter-items.result.now in
    elim c.if-letter-ne32.branch [
      | then-letter-ne32+in_ok-add w ↦
          let n = w.in_ok-add.ensures in
          rw (w.bytes-is, w.part-is, w.fill-is) record {
            fill = n.fill;
            part = n.part;
            bits = letter_taken xs l.bytes.items _ l.letter-index l.fill l.part _ _ c.loop-letter-test.true w.if-letter-ne32.true i.bits n.bits;
          }
      | else-letter-ne32 w ↦
          rw (w.bytes-is, w.part-is, w.fill-is) record {
            fill = i.fill;
            part = i.part;
            bits = i.bits ∙ sym (blank_more xs l.letter-index c.loop-letter-test.true w.if-letter-ne32.false);
          }
    ]

pub returns : goal.returns
returns c =
    let l = c.loop-letter in
    let i = l.invariant in
    let xs = c.as_bytes-letter-items.result.now in
    let is = c.as_bytes-letter-items.ensures.value in
    elim c.if-fill-gt0.branch [
      | then-fill-gt0+in_ok-push w ↦
          end_filled xs c.args.text.now l.bytes.items _ l.letter-index l.fill l.part c.loop-letter-test.false is w.if-fill-gt0.true i.fill i.part i.bits
          (ap (λ b. b.items) w.bytes-is ∙ w.in_ok-push.ensures.items)
      | else-fill-gt0 w ↦
          rw w.bytes-is (end_whole xs c.args.text.now l.bytes.items l.letter-index l.fill l.part c.loop-letter-test.false is (omega (arith, w.if-fill-gt0.false)) i.bits)
    ]
