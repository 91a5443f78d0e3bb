use Rattle.std.proofs.Common.{◌≡◌, ◌<◌, length}
use Rattle.std.specs.Prelude.{get_or}
use Rattle.wg_graph.specs.Ascending.{Ascends}
use Rattle.wg_stream.specs.AllRecords.{AllRecords, known_at}
use Rattle.wg_random.proofs.archive.Archive.climb.Given as goal

abbrev pub invariant-up : goal.invariant-up
invariant-up l = record {
  within : l.left < length l.chain;
  list : (r : AllRecords l.self.params l.self.bits) → l.list ≡ (known_at r.records (get_or l.chain l.left 0)).list;
  ascends : Ascends 0 l.list;
}

abbrev pub decreases-up : goal.decreases-up
decreases-up l = l.left
