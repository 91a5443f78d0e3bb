use Rattle.std.proofs.Common.{length}
use Rattle.wg_ascii.proofs.Written.{WrittenSoFar}
use Rattle.wg_ascii.proofs.plain.plain_list.Given as goal

abbrev pub invariant-words : goal.invariant-words
invariant-words l = WrittenSoFar l.n l.arcs l.text l.rest l.list l.least l.count

abbrev pub decreases-words : goal.decreases-words
decreases-words l = length l.rest
