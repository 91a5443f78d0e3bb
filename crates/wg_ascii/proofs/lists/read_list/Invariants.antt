use Rattle.std.proofs.Common.{length}
use Rattle.wg_num.specs.Words.{words_of}
use Rattle.wg_ascii.proofs.Successors.{ListSoFar}
use Rattle.wg_ascii.proofs.lists.read_list.Given as goal

abbrev pub invariant-words : goal.invariant-words
invariant-words l = ListSoFar l.n l.arcs (words_of l.text) (words_of l.rest) l.list l.least l.count

abbrev pub decreases-words : goal.decreases-words
decreases-words l = length l.rest
