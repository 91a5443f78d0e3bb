use Rattle.std.proofs.Common.{◌≡◌, ◌++◌, ◌<◌, ◌≤◌, length, take, drop}
use Rattle.wg_bits.specs.Bits.{bits_of, low_bits}
use Rattle.wg_memory.specs.Writing.{held_bits}
use Rattle.wg_memory.proofs.words.put_bits.Given as goal

-- the bits stand in the array, and behind it in the part
abbrev pub invariant-loop-fill : goal.invariant-loop-fill
invariant-loop-fill l = record {
  long : length l.file ≡ length l.fn.file;
  within : l.bytes ≤ length l.file;
  onward : l.fn.held.bytes ≤ l.bytes;
  few : l.fill < 64;
  bits : bits_of (take l.bytes l.file) ++ low_bits l.fill l.part
      ≡ held_bits l.fn.file l.fn.held ++ low_bits l.fn.count l.fn.value;
  rest : drop l.bytes l.file ≡ drop l.bytes l.fn.file;
}

abbrev pub decreases-loop-fill : goal.decreases-loop-fill
decreases-loop-fill l = l.fill
