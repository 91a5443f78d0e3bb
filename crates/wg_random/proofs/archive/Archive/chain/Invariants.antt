use Rattle.std.proofs.Common.{◌≡◌, ◌+◌, ◌-◌, ◌<◌, length}
use Rattle.wg_stream.specs.AllRecords.{AllRecords}
use Rattle.wg_random.specs.Chain.{ArePages, Going}
use Rattle.wg_random.proofs.archive.Archive.chain.Given as goal

abbrev pub invariant-down : goal.invariant-down
invariant-down g l = record {
  low : l.page < l.self.params.nodes;
  some : 0 < length l.chain;
  pages : ArePages l.self.params.nodes l.chain (length l.chain - 1);
  ticks : l.steps + 1 ≡ l.fn.steps + length l.chain;
  going : (r : AllRecords l.self.params l.self.bits) → Going l.self.params l.self.bits r.records l.chain l.x l.page (length l.chain - 1);
}

abbrev pub decreases-down : goal.decreases-down
decreases-down g l = l.page
