use Rattle.std.proofs.Common.{ℕ, List, Ok, subst, sym}
use Rattle.wg_bits.specs.Bits.{bits_of}
use Rattle.wg_grammar.specs.Archive.{ReadsGraph}
use Rattle.wg_transforms.proofs.union.lists_of.Goals as goal

pub returns-clause-graph : goal.returns-clause-graph
returns-clause-graph c = λ a is. c.in_ok-with_room.ensures.graph a (subst (λ (x : List ℕ). ReadsGraph c.args.archive.now.params (bits_of x) (Ok a)) (sym c.as_slice-bytes.ensures) is.judged.0)

pub with_room-requires-clause-finds : goal.with_room-requires-clause-finds
with_room-requires-clause-finds c =
    let a = c.requires.0 in
    let judged = c.requires.1.judged in (
      a.places,
      (a.graph, subst (λ (x : List ℕ). ReadsGraph c.args.archive.now.params (bits_of x) (Ok a)) (sym c.as_slice-bytes.ensures) judged.0, judged.1),
    )
