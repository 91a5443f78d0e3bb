use Rattle.std.proofs.Common.{◌+◌, ◌++◌, ◌∷◌, [], ℕ, List, Ok, subst, sym}
use Rattle.wg_memory.specs.Range.{AreKnown}
use Rattle.wg_bits.specs.Bits.{bits_of}
use Rattle.wg_graph.specs.Pieces.{pieces}
use Rattle.wg_graph.proofs.Ends.{length-pieces}
use Rattle.wg_decoder.specs.Chains.{SpotReads}
use Rattle.wg_decoder.specs.Handed.{page_of}
use Rattle.wg_memory.proofs.RangeLemmas.{known_more}
use Rattle.wg_memory.proofs.range.next_page.Goals as goal

pub returns-in-Ok-push-clause-known : goal.returns-in-Ok-push-clause-known
returns-in-Ok-push-clause-known c =
    let p = c.args.params.now in
    let bits = bits_of c.args.graph.now in
    let places = c.args.places.now in
    let first = c.args.first in
    let lists = pieces 0 c.args.ends.now c.args.lists.now in
    let read = c.in-Ok.read in
    let one = subst (λ (n : ℕ). SpotReads p bits places (first + n) (Ok (page_of read.list read.depth))) (sym (length-pieces 0 c.args.ends.now c.args.lists.now)) c.in-Ok.ensures.list in
    subst (λ (depths : List ℕ). AreKnown p bits places first (lists ++ read.list ∷ []) depths) (sym c.in-Ok-push.ensures.ok)
    (known_more p bits places first lists c.args.depths.now read.list read.depth c.requires.known one)
