use Rattle.std.proofs.Common.{refl, inr}
use Rattle.wg_bits.specs.Bits.{bits_of}
use Rattle.wg_grammar.specs.Archive.{Accepted}
use Rattle.wg_grammar.proofs.ErrorLemmas.{faults_weaker}
use Rattle.wg_stream.proofs.AcceptedRecords.{read_of}
use Rattle.wg_stream.proofs.AllRecords.{offsets_count}
use Rattle.wg_memory.proofs.checking.check_offsets.Goals as goal

pub check_beside-requires-clause-many : goal.check_beside-requires-clause-many
check_beside-requires-clause-many c =
    let p = c.args.params in
    let bits = bits_of c.args.graph.now in
    let g = read_of p bits _ c.in-Ok.ensures.finds.1 in
    offsets_count p bits g.reading _ g.places

pub returns-in-Ok-clause-paired : goal.returns-in-Ok-clause-paired
returns-in-Ok-clause-paired c =
    let f = c.in-Ok.ensures.finds in
    c.check_beside.ensures.paired (bits_of c.args.graph.now) (record { graph = f.0; places = c.in-Ok.found.offsets }) f.1 refl

pub returns-in-Ok-clause-fault : goal.returns-in-Ok-clause-fault
returns-in-Ok-clause-fault c =
    let f = c.in-Ok.ensures.finds in
    let a : Accepted = record { graph = f.0; places = c.in-Ok.found.offsets } in
    faults_weaker c.check_beside.result _ _ (λ e k. inr (a, f.1, k)) (c.check_beside.ensures.fault a refl)
