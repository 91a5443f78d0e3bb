use Rattle.std.proofs.Common.{◌+◌, ◌*◌, ◌≡◌, ◌<◌, ◌≤◌, ◌++◌, length}
use Rattle.wg_bits.specs.Bits.{bits_of, low_bits}
use Rattle.wg_bits.specs.declared.buffer.TheConstants.{BUFFER}
use Rattle.wg_bits.proofs.writer.Writer.flush.Given as goal

abbrev pub invariant-loop-self : goal.invariant-loop-self
invariant-loop-self g l = record {
  few : l.self-inside.fill < 64;
  room : 8 * length l.self-inside.whole + l.self-inside.fill ≤ 8 * BUFFER;
  bits : bits_of l.self-inside.whole ++ low_bits l.self-inside.fill l.self-inside.part ≡ l.fn.self.bits;
}

abbrev pub decreases-loop-self : goal.decreases-loop-self
decreases-loop-self g l = l.self-inside.fill
