-- A page that is read without a check, of an archive that is accepted.
use Rattle.std.proofs.Common.{◌≡◌, ◌∙◌, ℕ, zero, suc, ◌+◌, ◌-◌, ◌<◌, ◌≤◌, ◌==◌, Bool, false, not, List, [], ◌∷◌, length, map, get_or, reverse, inl, inr, Option, Result, Ok, sym, ap, subst, arith}
use Rattle.std.proofs.lemmas.Bool.{cases_Bool, cases_lt, eqb-true, not-false}
use Rattle.std.proofs.lemmas.List.{append-nil, ext_get_or, length-map, length-reverse}
use Rattle.wg_bits.specs.Bits.{bits_of}
use Rattle.wg_params.specs.Parameters.{Parameters, IsWithinLimits}
use Rattle.wg_properties.specs.Judged.{properties_of}
use Rattle.wg_graph.specs.Numbers.{numbers_where}
use Rattle.wg_grammar.specs.{Archive.Accepted, Archive.Pages, Archive.ReadsGraph, Archive.context_of, Record.Whole}
use Rattle.wg_grammar.specs.{declared.fault.ArchiveFault.ArchiveFault, declared.fault.OffsetWord.OffsetWord}
use Rattle.wg_grammar.specs.declared.fault.ArchiveFault.TheVariants as archive
use Rattle.wg_grammar.proofs.OneGraph.{record_onward}
use Rattle.wg_offsets.specs.Places.{AgreeInLengths, ArePlaces, last_place, pages_that_differ, record_length}
use Rattle.wg_offsets.specs.Words.{ReadsOffsets}
use Rattle.wg_offsets.proofs.PlacesLemmas.{places_within}
use Rattle.wg_stream.proofs.AcceptedRecords.{read_of}
use Rattle.wg_random.proofs.SpotAgree.{agrees}
use Rattle.wg_outcomes.specs.Judged.{Judged, accepted, status_of, unless_bad_offsets, unless_some_differ, with_file, with_graph, with_lengths, with_offsets, with_pages, with_parameters, with_records, with_successors, offsets_then}
use Rattle.wg_outcomes.specs.{Readings.Readings, declared.status.Input.Input, declared.status.Status.TheVariants.Done}
use Rattle.wg_outcomes.specs.declared.status.Input.TheVariants as input
use Rattle.wg_readings.proofs.ReadingsLemmas.{page_absent, page_refused, page_there, successors_go_on}
use Rattle.wg_outcomes.specs.Commands.{line_in, ok_line, successors_line, successors_lines}
use Rattle.wg_laws.specs.Spotted.{SpotsAreShown}
use Rattle.wg_laws.proofs.HeldLemmas.{file_read, graph_read, read_within, text_read}

-- ---- places that agree in all lengths

-- if no number passes a test, each fails it
none_passes : (t : ℕ → Bool) (n k : ℕ) → numbers_where t n k ≡ [] → (y : ℕ) → n ≤ y → y < n + k → t y ≡ false
none_passes t n zero none y low high = absurd (omega (arith, low, high))
none_passes t n (suc k) none y low high =
    elim (cases_Bool (t n)) [
      | inl passes ↦ absurd (let no : n ∷ numbers_where t (n + 1) k ≡ [] = rw passes at none in cc)
      | inr fails ↦
          elim (cases_lt n y) [
            | inl above ↦ none_passes t (n + 1) k (rw fails at none) y (omega (arith, above)) (omega (arith, high))
            | inr here ↦ subst (λ (z : ℕ). t z ≡ false) (let same : n ≡ y = omega (arith, low, here) in same) fails
          ]
    ]

agree : (found stored : List ℕ) → pages_that_differ found stored ≡ [] → AgreeInLengths found stored
agree found stored none x inside =
    let same : not (record_length found x == record_length stored x) ≡ false = none_passes (λ y. not (record_length found y == record_length stored y)) 0 (length found - 1) none x (omega arith) (omega (arith, inside)) in
    eqb-true (record_length found x) (record_length stored x) (not-false (record_length found x == record_length stored x) same)

-- each record begins at the end of the one before, or later
rises : (p : Parameters) (bits : List Bool) (first : List Whole) (at : ℕ) (ws last : List Whole) (end : ℕ) → Pages p bits first at ws last end
    → (x : ℕ) → x < length ws → get_or (at ∷ map (λ w. w.end) ws) x 0 ≤ get_or (at ∷ map (λ w. w.end) ws) (suc x) 0
rises p bits first at [] last end h x lt = absurd (omega (arith, lt))
rises p bits first at (w ∷ ws) last end h zero lt = record_onward p (context_of p first) bits at w h.1
rises p bits first at (w ∷ ws) last end h (suc x) lt = rises p bits (w ∷ first) w.end ws last end h.2 x (omega (arith, lt))

module _ (found stored : List ℕ) (same_length : length found ≡ length stored) (starts : get_or found 0 0 ≡ 0) (up : (x : ℕ) → x + 1 < length found → get_or found x 0 ≤ get_or found (x + 1) 0)
    (are : ArePlaces stored) (same : AgreeInLengths found stored) where
  place_is : (x : ℕ) → x < length found → get_or found x 0 ≡ get_or stored x 0
  place_is zero lt = starts ∙ sym are.first
  place_is (suc x) lt =
      let next : suc x ≡ x + 1 = omega arith in
      let up_here : get_or found x 0 ≤ get_or found (x + 1) 0 = up x (omega (arith, lt)) in
      let up_there : get_or stored x 0 ≤ get_or stored (x + 1) 0 = are.never_fall x (x + 1) 0 (omega arith) (omega (arith, lt, same_length)) in
      let before = place_is x (omega (arith, lt)) in
      let e : get_or found (x + 1) 0 ≡ get_or stored (x + 1) 0 = omega (arith, up_here, up_there, before, same x (omega (arith, lt))) in
      ap (λ (j : ℕ). get_or found j 0) next ∙ e ∙ ap (λ (j : ℕ). get_or stored j 0) (sym next)

  places_are : found ≡ stored
  places_are = ext_get_or 0 found stored same_length place_is

-- offsets that agree in all lengths with those of a graph are these
stored_same : (p : Parameters) (bits more : List Bool) (a : Accepted) (stored : List ℕ) → ReadsGraph p bits (Ok a) → ReadsOffsets p.offsets p.nodes more (Ok stored)
    → AgreeInLengths a.places stored → stored ≡ a.places
stored_same p bits more a stored reads stores same =
    let r = read_of p bits a reads in
    let are = places_within p.offsets p.nodes more stored stores in
    let e : Whole → ℕ = λ w. w.end in
    let all : length a.places ≡ suc (length (reverse (map e reads.1))) = ap length reads.4.4 in
    let many : length a.places ≡ p.nodes + 1 = omega (arith, all, length-reverse (map e reads.1), length-map reads.1 e, reads.4.0) in
    let each : length a.places ≡ suc (length (map e r.reading.records)) = ap length r.places in
    let counted : length r.reading.records + 1 ≡ length a.places = omega (arith, each, length-map r.reading.records e) in
    sym (places_are a.places stored (many ∙ sym are.0) (ap (λ (l : List ℕ). get_or l 0 0) r.places)
    (λ x inside. subst (λ (j : ℕ). get_or a.places x 0 ≤ get_or a.places j 0) (let next : suc x ≡ x + 1 = omega arith in next)
    (subst (λ (l : List ℕ). get_or l x 0 ≤ get_or l (suc x) 0) (sym r.places) (rises p bits [] 0 r.reading.records r.reading.behind r.reading.end r.reading.pages x (omega (arith, inside, counted)))))
    are.1 same)

-- ---- from an archive that was accepted back to what its files hold

offsets_read : (w : Result (List ℕ) OffsetWord) (next : List ℕ → Judged) → status_of (unless_bad_offsets w next) ≡ Done → (places : List ℕ) × (w ≡ Ok places) × ((n : List ℕ → Judged) → unless_bad_offsets w n ≡ n places)
offsets_read w next h = grind arith

none_differs : (l found stored : List ℕ) (next : Unit {0} → Judged) → status_of (unless_some_differ l found stored next) ≡ Done → l ≡ []
none_differs l found stored next h = grind arith

-- the parameters and the graph file of an archive, with which each validation goes on
record RecordsBehind (held : Input → Option (List ℕ)) : Type 0 where
  pub parameters : Parameters
  pub bytes : List ℕ
  pub limits : IsWithinLimits parameters
  pub goes_on : (next : Parameters → List ℕ → Judged) → with_records held next ≡ next parameters bytes

records_behind : (held : Input → Option (List ℕ)) (last : Parameters → List ℕ → Judged) → status_of (with_records held last) ≡ Done → RecordsBehind held
records_behind held last done =
    let on : (Parameters → List ℕ → Judged) → Parameters → Judged = λ n p. with_file input.Graph (held input.Graph) (λ b. n p b) in
    let text = file_read input.Properties (held input.Properties) (λ t. with_parameters t (on last)) done in
    let params = text_read (properties_of text.0) (on last) (ap status_of (sym (text.2 (λ t. with_parameters t (on last)))) ∙ done) in
    let to_params : (n : Parameters → List ℕ → Judged) → with_records held n ≡ on n params.0 = λ n. text.2 (λ t. with_parameters t (on n)) ∙ params.2 (on n) in
    let bytes = file_read input.Graph (held input.Graph) (λ b. last params.0 b) (ap status_of (sym (to_params last)) ∙ done) in
    record {
      parameters = params.0;
      bytes = bytes.0;
      limits = read_within text.0 params.0 params.1;
      goes_on = λ n. to_params n ∙ bytes.2 (λ b. n params.0 b);
    }

-- ---- the page

-- the validations of one page of a graph, by its chain and by its list
spot_is_show : (r : Readings) (p : Parameters) (limits : IsWithinLimits p) (bytes : List ℕ) (a : Accepted) (page : ℕ) → ReadsGraph p (bits_of bytes) (Ok a)
    → with_successors r p bytes a.places page (λ list. accepted (successors_line page list)) ≡ with_pages p.nodes (page ∷ []) (λ all. accepted (successors_lines a.graph (page ∷ [])))
spot_is_show r p limits bytes a page reads = elim (cases_lt page p.nodes) [
  | inl lt ↦
      let k = agrees p (bits_of bytes) a page reads lt in
      successors_go_on r p limits bytes a.places page lt k.0 k.2 (λ list. accepted (successors_line page list))
      ∙ ap (λ (list : List ℕ). accepted (successors_line page list)) k.1
      ∙ ap accepted (sym (append-nil (line_in a.graph page)))
      ∙ sym (page_there p.nodes page lt (λ all. accepted (successors_lines a.graph (page ∷ []))))
  | inr le ↦
      page_refused r p limits bytes a.places page le (λ list. accepted (successors_line page list))
      ∙ sym (page_absent p.nodes page le (λ all. accepted (successors_lines a.graph (page ∷ []))))
]

pub spots_shown : (r : Readings) → SpotsAreShown r
spots_shown r held base page done =
    let last : Parameters → Accepted → Judged = λ p a. accepted (ok_line p (last_place a.places)) in
    let behind_lengths : (Parameters → Accepted → Judged) → Parameters → Accepted → List ℕ → Judged = λ n p a stored. with_lengths a.places stored (λ same. n p a) in
    let behind_graph : (Parameters → Accepted → Judged) → Parameters → Accepted → Judged = λ n p a. offsets_then r p (held input.Offsets) (behind_lengths n p a) in
    let k = records_behind held (λ p b. with_graph r p b (behind_graph last p)) done in
    let p : Parameters = k.parameters in
    let found = graph_read (r.graph.value p k.bytes) (behind_graph last p) (ap status_of (sym (k.goes_on (λ q b. with_graph r q b (behind_graph last q)))) ∙ done) in
    let a : Accepted = found.0 in
    let to_graph : (n : Parameters → Accepted → Judged) → with_records held (λ q b. with_graph r q b (behind_graph n q)) ≡ behind_graph n p a =
    λ n. k.goes_on (λ q b. with_graph r q b (behind_graph n q)) ∙ found.2 (behind_graph n p) in
    let more = file_read input.Offsets (held input.Offsets) (λ m. with_offsets r p m (behind_lengths last p a)) (ap status_of (sym (to_graph last)) ∙ done) in
    let to_offsets : (n : Parameters → Accepted → Judged) → with_records held (λ q b. with_graph r q b (behind_graph n q)) ≡ with_offsets r p more.0 (behind_lengths n p a) =
    λ n. to_graph n ∙ more.2 (λ m. with_offsets r p m (behind_lengths n p a)) in
    let stored = offsets_read (r.offsets.value p more.0) (behind_lengths last p a) (ap status_of (sym (to_offsets last)) ∙ done) in
    let to_stored : (n : Parameters → Accepted → Judged) → with_records held (λ q b. with_graph r q b (behind_graph n q)) ≡ behind_lengths n p a stored.0 =
    λ n. to_offsets n ∙ stored.2 (behind_lengths n p a) in
    let none : pages_that_differ a.places stored.0 ≡ [] = none_differs (pages_that_differ a.places stored.0) a.places stored.0 (λ same. last p a) (ap status_of (sym (to_stored last)) ∙ done) in
    let to_end : (n : Parameters → Accepted → Judged) → with_records held (λ q b. with_graph r q b (behind_graph n q)) ≡ n p a =
    λ n. to_stored n ∙ ap (λ (l : List ℕ). unless_some_differ l a.places stored.0 (λ same. n p a)) none in
    let reads = subst (λ (w : Result Accepted ArchiveFault). ReadsGraph p (bits_of k.bytes) w) found.1 (r.graph.reads p k.limits k.bytes) in
    let stores = subst (λ (w : Result (List ℕ) OffsetWord). ReadsOffsets p.offsets p.nodes (bits_of more.0) w) stored.1 (r.offsets.reads p k.limits more.0) in
    let same : stored.0 ≡ a.places = stored_same p (bits_of k.bytes) (bits_of more.0) a stored.0 reads stores (agree a.places stored.0 none) in
    let line : List ℕ → Judged = λ list. accepted (successors_line page list) in
    k.goes_on (λ q b. offsets_then r q (held input.Offsets) (λ places. with_successors r q b places page line))
    ∙ more.2 (λ m. with_offsets r p m (λ places. with_successors r p k.bytes places page line))
    ∙ stored.2 (λ places. with_successors r p k.bytes places page line)
    ∙ ap (λ (places : List ℕ). with_successors r p k.bytes places page line) same
    ∙ spot_is_show r p k.limits k.bytes a page reads
    ∙ sym (to_end (λ q x. with_pages q.nodes (page ∷ []) (λ all. accepted (successors_lines x.graph (page ∷ [])))))
