-- The greedy archive of a graph is accepted, given that canonical records are proper.
use Rattle.std.proofs.Common.{◌≡◌, ℕ, ◌+◌, ◌<◌, ◌≤◌, Bool, true, false, List, [], ◌∷◌, ◌++◌, length, length-append, map, drop, replicate, sum, None, Ok, refl, sym, ap, subst, ◌∙◌, arith}
use Rattle.std.specs.Prelude.{All}
use Rattle.std.specs.List.{flat_map}
use Rattle.std.proofs.Math.Seq.{drop-append_seam}
use Rattle.std.proofs.lemmas.Bool.{le-ltb, ne_eqb, true≢false}
use Rattle.std.proofs.lemmas.List.{append_assoc, append-nil}
use Rattle.std.proofs.lemmas.List.Elements.{All-nil}
use Rattle.wg_bits.specs.Written.{padding}
use Rattle.wg_params.specs.declared.code.Code.{Code}
use Rattle.wg_params.specs.Codes.{is_gamma_or_delta}
use Rattle.wg_params.specs.Parameters.{Parameters, IsWithinLimits}
use Rattle.wg_params.proofs.FieldCodes.{two_codes}
use Rattle.wg_codes.specs.declared.outcome.Read.TheVariants.{Value}
use Rattle.wg_codes.specs.Reading.{Reads}
use Rattle.wg_codes.specs.Words.{word, top}
use Rattle.wg_graph.specs.Ascending.{Below}
use Rattle.wg_graph.proofs.Copies.{sum_cons, sum_push}
use Rattle.wg_grammar.specs.Record.{Whole}
use Rattle.wg_grammar.specs.Archive.{IsTail, Pages, ReadsGraph}
use Rattle.wg_grammar.proofs.Tails.{all_zero}
use Rattle.wg_offsets.specs.Words as offsets
use Rattle.wg_offsets.specs.Words.{refusal, Words, ReadsOffsets}
use Rattle.wg_offsets.specs.declared.places.TheConstants.{MOST_PLACE}
use Rattle.wg_greedy.specs.Archive.{record_bits, graph_bits, offset_values, offsets_bits, filled}
use Rattle.wg_greedy.specs.Laws.{CanonicalIsProper, GreedyIsAccepted}
use Rattle.wg_greedy.proofs.Bytes.{graph_again, offsets_again}
use Rattle.wg_greedy.proofs.Totals.{AreLists, are_lists, numbers_in, graph_short, values_sum, as_many_values, few_missing, short_graph, short_offsets}
use Rattle.wg_greedy.proofs.Standing.{wholes, passed, records_stand, wholes_lists, wholes_ends, passed_lists, passed_places, passed_many, wholes_many, passed_arcs}

-- what fills the last byte is the tail
filled_tail : (bits : List Bool) → IsTail (filled bits) (length bits)
filled_tail bits =
    let zeros : List Bool = replicate (padding (length bits)) false in
    all_zero (filled bits) [] (length bits) (padding (length bits)) (omega (arith, length-append bits zeros)) (drop-append_seam bits zeros ∙ sym (append-nil zeros))
    (omega (arith, few_missing (length bits))) refl

-- ---- offsets

top_high : (c : Code) (v : ℕ) → is_gamma_or_delta c ≡ true → v ≤ MOST_PLACE → v ≤ top c
top_high c v is le = two_codes (λ code. v ≤ top code) c is (omega arith) (omega arith)

word_stands : (c : Code) (v at : ℕ) (bits before more : List Bool) → is_gamma_or_delta c ≡ true → v ≤ MOST_PLACE → bits ≡ before ++ (word c v ++ more)
    → at ≡ length before → Reads (word c) (top c) (drop at bits) (Value v)
word_stands c v at bits before more is low here start = grind (arith, drop-append_seam, true≢false)

fine_value : (number offset v : ℕ) → 0 < number → offset + v ≤ MOST_PLACE → refusal number offset (Value v) ≡ None
fine_value number offset v some le = rw (ne_eqb number 0 (λ e. absurd (omega arith)), le-ltb MOST_PLACE (offset + v) le) refl

words_stand : (c : Code) (bits : List Bool) (read : List ℕ) (at : ℕ) (vs : List ℕ) (before more : List Bool) → is_gamma_or_delta c ≡ true → 0 < length read
    → sum read + sum vs ≤ MOST_PLACE → bits ≡ before ++ (flat_map (word c) vs ++ more) → at ≡ length before
    → Words c bits read at vs (read ++ vs) (at + length (flat_map (word c) vs))
words_stand c bits read at [] before more is some low here start = (append-nil read, omega arith)
words_stand c bits read at (v ∷ vs) before more is some low here start =
    let first : List Bool = word c v in
    let others : List Bool = flat_map (word c) vs in
    let cut : bits ≡ before ++ (first ++ (others ++ more)) = here ∙ ap (λ z. before ++ z) (append_assoc first others more) in
    let later : bits ≡ (before ++ first) ++ (others ++ more) = cut ∙ sym (append_assoc before first (others ++ more)) in
    let total : sum (v ∷ vs) ≡ v + sum vs = sum_cons v vs in
    let rest =
    words_stand c bits (read ++ v ∷ []) (at + length first) vs (before ++ first) more is (omega (arith, length-append read (v ∷ [])))
    (omega (arith, low, total, sum_push read v)) later (omega (arith, start, length-append before first)) in
    let all : (read ++ v ∷ []) ++ vs ≡ read ++ v ∷ vs = append_assoc read (v ∷ []) vs in
    let end : at + length first + length others ≡ at + length (first ++ others) = omega (arith, length-append first others) in (
      word_stands c v at bits before (others ++ more) is (omega (arith, low, total)) cut start,
      fine_value (length read) (sum read) v some (omega (arith, low, total)),
      subst (Words c bits (read ++ v ∷ []) (at + length first) vs (read ++ v ∷ vs)) end
          (subst (λ (l : List ℕ). Words c bits (read ++ v ∷ []) (at + length first) vs l (at + length first + length others)) all rest),
    )

-- the first word is that of 0
values_stand : (c : Code) (vs : List ℕ) (more : List Bool) → is_gamma_or_delta c ≡ true → sum vs ≤ MOST_PLACE
    → Words c (flat_map (word c) (0 ∷ vs) ++ more) [] 0 (0 ∷ vs) (0 ∷ vs) (length (flat_map (word c) (0 ∷ vs)))
values_stand c vs more is low =
    let first : List Bool = word c 0 in
    let others : List Bool = flat_map (word c) vs in
    let bits : List Bool = (first ++ others) ++ more in
    let cut : bits ≡ first ++ (others ++ more) = append_assoc first others more in
    let rest = words_stand c bits (0 ∷ []) (0 + length first) vs first more is (omega arith) (omega (arith, low, sum_cons 0 [])) cut (omega arith) in
    let end : 0 + length first + length others ≡ length (first ++ others) = omega (arith, length-append first others) in (
      word_stands c 0 0 bits [] (others ++ more) is (omega arith) cut refl,
      refl,
      subst (Words c bits (0 ∷ []) (0 + length first) vs (0 ∷ vs)) end rest,
    )

reads_offsets : (p : Parameters) (lists : List (List ℕ)) → IsWithinLimits p → length lists ≡ p.nodes → sum (offset_values p lists) ≤ MOST_PLACE
    → ReadsOffsets p.offsets p.nodes (filled (offsets_bits p lists)) (Ok (offsets.places_of (offset_values p lists)))
reads_offsets p lists within nodes low =
    let values : List ℕ = offset_values p lists in
    let lengths : List ℕ = map length (record_bits p lists) in
    let bits : List Bool = offsets_bits p lists in (
      values,
      values,
      length bits,
      values_stand p.offsets lengths (replicate (padding (length bits)) false) within.offsets (omega (arith, low, sum_cons 0 lengths)),
      (omega (arith, as_many_values p lists, nodes), filled_tail bits, refl),
    )

-- ---- the graph

reads_graph : CanonicalIsProper → (p : Parameters) (lists : List (List ℕ)) → IsWithinLimits p → AreLists p lists → length lists ≡ p.nodes → numbers_in lists ≡ p.arcs
    → ReadsGraph p (filled (graph_bits p lists)) (Ok (record { graph = lists; places = offsets.places_of (offset_values p lists) }))
reads_graph proper p lists within are nodes arcs =
    let bits : List Bool = graph_bits p lists in
    let ws : List Whole = wholes p [] 0 lists in (
      ws,
      passed [] ws,
      length bits,
      subst (Pages p (filled bits) [] 0 ws (passed [] ws)) (let e : 0 + length bits ≡ length bits = omega arith in e)
          (records_stand proper p within [] lists (filled bits) [] (replicate (padding (length bits)) false) 0 are (All-nil _) (omega (arith, nodes)) (omega (arith, arcs)) refl refl),
      (
        omega (arith, passed_many [] ws, wholes_many p [] 0 lists, nodes),
        filled_tail bits,
        omega (arith, passed_arcs p [] [] 0 lists, arcs),
        sym (passed_lists ws ∙ wholes_lists p [] 0 lists),
        sym (passed_places ws ∙ ap (λ es. 0 ∷ es) (wholes_ends p [] 0 lists)),
      ),
    )

pub greedy_accepted : CanonicalIsProper → GreedyIsAccepted
greedy_accepted proper p g within is nodes arcs =
    let lists : List (List ℕ) = g.lists in
    let are : AreLists p lists = are_lists p lists is.ascending (subst (λ n. All (Below n) lists) (sym nodes) is.below) in
    let many : length lists ≡ p.nodes = is.counted ∙ sym nodes in
    let total : numbers_in lists ≡ p.arcs = sym arcs in
    let low : sum (offset_values p lists) ≤ MOST_PLACE = omega (arith, values_sum p lists, graph_short p lists within are many total) in
    record {
      graph = subst (λ z. ReadsGraph p z (Ok (record { graph = lists; places = offsets.places_of (offset_values p lists) }))) (sym (graph_again p lists))
          (reads_graph proper p lists within are many total);
      offsets = subst (λ z. ReadsOffsets p.offsets p.nodes z (Ok (offsets.places_of (offset_values p lists)))) (sym (offsets_again p lists)) (reads_offsets p lists within many low);
      short_graph = short_graph p lists within are many total;
      short_offsets = short_offsets p lists within many;
    }
