use Rattle.std.proofs.Common.{◌≡◌, ◌*◌, ◌≤◌, ◌++◌}
use Rattle.wg_bits.specs.Bits.{rest, moved}
use Rattle.wg_codes.proofs.NibbleWords.{IsOpen, open_digits}
use Rattle.wg_codes.proofs.nibble.read.Given as goal

abbrev pub invariant-loop-digit : goal.invariant-loop-digit
invariant-loop-digit l = record {
  few : l.digit ≤ 20;
  lead : IsOpen l.digit l.value;
  digits : rest l.fn.cursor ≡ open_digits l.digit l.value ++ rest l.cursor;
  moves : l.cursor ≡ moved l.fn.cursor (4 * l.digit);
}
