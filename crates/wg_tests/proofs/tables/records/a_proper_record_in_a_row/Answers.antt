use Rattle.std.proofs.Common.{◌≡◌, ℕ, ◌≤◌, min, List, length, None, Ok, arith, subst}
use Rattle.wg_bits.specs.Bits.{Position}
use Rattle.wg_params.specs.Parameters.{Parameters}
use Rattle.wg_grammar.specs.Context.{Known}
use Rattle.wg_grammar.specs.Record.{Whole, ReadsRecord}
use Rattle.wg_decoder.specs.Answer.{context_at}
use Rattle.wg_decoder.specs.Proper.{IsRecord}
use Rattle.wg_decoder.specs.Remembered.{known_of}
use Rattle.wg_decoder.proofs.ProperLemmas.Transfer.{judged_of, below_of}
use Rattle.wg_tests.proofs.tables.records.a_proper_record_in_a_row.Goals as goal

proper_of : (p : Parameters) (behind : List Known) (q cur : Position) (w : Whole) (room : ℕ) → q ≡ cur → length w.known.list ≤ room → ReadsRecord p (context_at 0 0 behind) q.bits q.at (Ok w)
    → (x : List ℕ) × IsRecord p 0 None cur x × (length x ≤ room)
proper_of p behind q cur w room e short h =
    let j = judged_of p (context_at 0 0 behind) q.bits q.at w h in
    let near : j.r ≤ min p.window 0 = j.near in
    let none : j.r ≡ 0 = omega (arith, near) in
    let here : IsRecord p 0 None q w.known.list = subst (λ (r : ℕ). IsRecord p 0 (below_of (context_at 0 0 behind) r) q w.known.list) none j.proper in
    (w.known.list, subst (λ (x : Position). IsRecord p 0 None x w.known.list) e here, short)

pub decode_into-requires-clause-proper : goal.decode_into-requires-clause-proper
decode_into-requires-clause-proper g c =
    let whole : Whole = record { known = known_of c.in_ok-decode.field-0; end = c.decode.new.cursor.at } in
    proper_of c.in_ok-params.params c.new-window.result.behind c.again.result c.new-cursor.result whole c.in_ok-row.row.room
    c.again.ensures (omega (arith, c.in_ok-decode.ensures.total, c.in_ok-row.ensures.room, c.arcs.ensures.value)) c.in_ok-decode.ensures.reads
