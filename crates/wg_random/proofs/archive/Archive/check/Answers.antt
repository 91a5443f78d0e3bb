use Rattle.std.proofs.Common.{ℕ, List, Ok, subst}
use Rattle.wg_bits.specs.Bits.{bits_of}
use Rattle.wg_grammar.specs.Archive.{ReadsGraph}
use Rattle.wg_random.proofs.archive.Archive.check.Goals as goal

pub invariant_of-result : goal.invariant_of-result
invariant_of-result c =
    let h = c.records.invariant.1 in
    let bits = bits_of c.records.inside.bytes.now in
    (c.records.invariant.0, (h.0, subst (λ (places : List ℕ). ReadsGraph c.records.inside.params bits (Ok (record { graph = h.0; places = places }))) c.in-Ok.ensures.same h.1))
