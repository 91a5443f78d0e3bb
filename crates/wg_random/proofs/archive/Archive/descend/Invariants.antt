use Rattle.std.proofs.Common.{◌≡◌, ◌+◌, ◌<◌, ◌≤◌, length}
use Rattle.wg_iterators.specs.declared.below.TheConstants.{CHAIN_PAGES}
use Rattle.wg_stream.specs.AllRecords.{AllRecords}
use Rattle.wg_random.specs.Chain.{ArePages, Going}
use Rattle.wg_random.proofs.archive.Archive.descend.Given as goal

abbrev pub invariant-down : goal.invariant-down
invariant-down g l = record {
  low : l.page < l.self.params.nodes;
  few : l.depth + l.page ≤ l.x;
  long : length l.chain ≡ CHAIN_PAGES;
  pages : ArePages l.self.params.nodes l.chain l.depth;
  ticks : l.steps ≡ l.fn.steps + l.depth;
  going : (r : AllRecords l.self.params l.self.bits) → Going l.self.params l.self.bits r.records l.chain l.x l.page l.depth;
}

abbrev pub decreases-down : goal.decreases-down
decreases-down g l = l.page
