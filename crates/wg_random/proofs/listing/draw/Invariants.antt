use Rattle.std.proofs.Common.{◌≡◌, ◌++◌, length}
use Rattle.wg_random.proofs.listing.draw.Given as goal

abbrev pub invariant-draw : goal.invariant-draw
invariant-draw l = record {
  all : l.list ++ l.successors.list ≡ l.fn.list ++ l.fn.successors.list;
}

abbrev pub decreases-draw : goal.decreases-draw
decreases-draw l = length l.successors.list
