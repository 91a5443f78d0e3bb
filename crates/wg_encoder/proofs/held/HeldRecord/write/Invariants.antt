use Rattle.std.proofs.Common.{◌≡◌, false, take}
use Rattle.wg_bits.proofs.Sending.{Sent}
use Rattle.wg_encoder.proofs.Puts.{bits_held}
use Rattle.wg_encoder.proofs.held.HeldRecord.write.Given as goal

abbrev pub invariant-loop-field : goal.invariant-loop-field
invariant-loop-field g l = record {
  ready : l.writer.failed ≡ false;
  sent : Sent g.D.Depot l.fn.depot l.depot l.name l.fn.writer.bits (bits_held (take l.field-index l.field-items)) l.writer.bits;
}
