use Rattle.std.proofs.Common.{ℕ, subst, sym}
use Rattle.wg_decoder.specs.Handed.{page_of}
use Rattle.wg_decoder.specs.Remembered.{Serves}
use Rattle.std.specs.Prelude.{replicate}
use Rattle.wg_decoder.proofs.ApartLemmas.{alone_serves}
use Rattle.wg_decoder.proofs.apart.decode_over.Goals as goal

pub decode_from-requires-clause-serves : goal.decode_from-requires-clause-serves
decode_from-requires-clause-serves g c =
    let k = page_of c.args.named.now c.args.depth in
    subst (λ (n : ℕ). Serves c.args.params.now c.args.page (replicate n k)) (sym c.window.ensures.value)
    (alone_serves c.args.params.now c.args.page k c.requires.ascends c.requires.below c.requires.depth)

pub returns-clause-reads : goal.returns-clause-reads
returns-clause-reads g c = λ bits r. rw c.window.ensures.value at (c.decode_from.ensures.reads bits r)

pub returns-clause-fault : goal.returns-clause-fault
returns-clause-fault g c = λ bits r. rw c.window.ensures.value at (c.decode_from.ensures.fault bits r)
