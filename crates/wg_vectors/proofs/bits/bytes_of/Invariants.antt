use Rattle.std.proofs.Common.{◌≡◌, ◌^◌, ◌<◌, ◌++◌, take}
use Rattle.wg_bits.specs.Bits.{bits_of, low_bits}
use Rattle.wg_vectors.specs.Spelled.{bits_in}
use Rattle.wg_vectors.proofs.bits.bytes_of.Given as goal

-- the letters so far
abbrev pub invariant-loop-letter : goal.invariant-loop-letter
invariant-loop-letter l = record {
  fill : l.fill < 8;
  part : l.part < 2 ^ l.fill;
  bits : bits_of l.bytes.items ++ low_bits l.fill l.part ≡ bits_in (take l.letter-index l.letter-items);
}
