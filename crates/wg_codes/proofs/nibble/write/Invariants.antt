use Rattle.std.proofs.Common.{◌≡◌, ◌/◌, ◌≤◌, false}
use Rattle.wg_bits.proofs.Sending.{Sent}
use Rattle.wg_codes.specs.Words.{highest}
use Rattle.wg_codes.proofs.NibblePuts.{opened}
use Rattle.wg_codes.proofs.nibble.write.Given as goal

abbrev pub invariant-loop-more : goal.invariant-loop-more
invariant-loop-more g l = record {
  small : l.more ≤ 21;
  within : l.more ≤ highest l.v / 3;
  ready : l.writer.failed ≡ false;
  sent : Sent g.D.Depot l.fn.depot l.depot l.name l.fn.writer.bits (opened l.v l.more) l.writer.bits;
}

abbrev pub decreases-loop-more : goal.decreases-loop-more
decreases-loop-more g l = l.more
