use Rattle.std.proofs.Common.{◌≡◌, ◌+◌, length, take}
use Rattle.wg_bits.specs.Bits.{bits_of}
use Rattle.wg_offsets.specs.Stages.{AreRead}
use Rattle.wg_memory.proofs.offsets.read_into.Given as goal

-- the array begins with the places that the words lead to
abbrev pub invariant-loop-word : goal.invariant-loop-word
invariant-loop-word l = record {
  code : l.words.code ≡ l.fn.code;
  pages : l.words.pages ≡ l.fn.n;
  count : l.words.count ≡ l.word;
  long : length l.places ≡ l.fn.n + 1;
  bits : l.source.bits ≡ bits_of l.fn.bytes;
  read : AreRead (bits_of l.fn.bytes) l.words l.source.at (take l.word l.places);
}
