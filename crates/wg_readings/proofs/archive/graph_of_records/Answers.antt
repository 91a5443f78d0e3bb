use Rattle.std.proofs.Common.{◌≡◌, ◌∙◌, ℕ, ap, sym}
use Rattle.wg_bits.specs.Bits.{bits_of, Position}
use Rattle.wg_grammar.specs.{Archive.Accepted, Laws.accepted_graph}
use Rattle.wg_readings.proofs.ReadingsLemmas.{goes_on}
use Rattle.wg_readings.proofs.archive.graph_of_records.Goals as goal

pub returns-in-Ok-clause-steps : goal.returns-in-Ok-clause-steps
returns-in-Ok-clause-steps c = λ r next.
    let p = c.args.params.now in
    let bytes = c.args.bytes.now in
    let read = c.in-Ok.ensures.reads (bits_of bytes) (ap (λ (q : Position). q.bits) c.new.ensures ∙ c.of.ensures) in
    let pages : p.nodes ≡ c.in-Ok.graph.nodes = sym c.in-Ok.ensures.nodes in
    goes_on r p c.in-Ok.ensures.limits bytes c.in-Ok.graph.lists read.0 read.1 (λ (a : Accepted). next (accepted_graph p a))
    ∙ ap (λ (n : ℕ). next (record { nodes = n; lists = c.in-Ok.graph.lists })) pages

pub returns-in-Err-clause-steps : goal.returns-in-Err-clause-steps
returns-in-Err-clause-steps c = λ r next.
    let p = c.args.params.now in
    let bytes = c.args.bytes.now in
    let fault = c.in-Err.ensures.fault (bits_of bytes) (ap (λ (q : Position). q.bits) c.new.ensures ∙ c.of.ensures) in
    c.graph_ending.ensures.refused c.in-Err.ensures.limits r bytes fault (λ a. next (accepted_graph p a))

pub returns-in-Err-clause-only : goal.returns-in-Err-clause-only
returns-in-Err-clause-only c =
    let bits = bits_of c.args.bytes.now in
    c.graph_ending.ensures.only bits (c.in-Err.ensures.fault bits (ap (λ (q : Position). q.bits) c.new.ensures ∙ c.of.ensures))
