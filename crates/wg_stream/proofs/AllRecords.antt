-- The records of all pages, one by one.
use Rattle.std.proofs.Common.{◌≡◌, ℕ, zero, suc, ◌+◌, ◌-◌, ◌<◌, ◌≤◌, Bool, inl, inr, List, [], ◌∷◌, length, take, map, Option, Some, Ok, refl, ap, subst, ◌∙◌, arith}
use Rattle.std.specs.Prelude.{get_or}
use Rattle.std.proofs.lemmas.Bool.{cases_lt}
use Rattle.std.proofs.lemmas.List.{length-map}
use Rattle.wg_params.specs.Parameters.{Parameters}
use Rattle.wg_grammar.specs.Context.{Known, no_page, depth_of}
use Rattle.wg_grammar.specs.SoFar.{value_or_0}
use Rattle.wg_grammar.specs.Record.{Whole, ReadsRecord}
use Rattle.wg_grammar.specs.Archive.{context_of, Pages}
use Rattle.wg_grammar.proofs.OneGraph.{record_within}
use Rattle.wg_decoder.specs.Proper.{IsRecord}
use Rattle.wg_decoder.proofs.ProperLemmas.Transfer.{below_of, Judged, judged_of}
use Rattle.wg_stream.specs.AllRecords.{AllRecords, no_record, known_at, offset_at}
use Rattle.wg_stream.specs.References.{below_at, depth_at, Refers}

length_pages : (p : Parameters) (bits : List Bool) (first : List Whole) (at : ℕ) (ws last : List Whole) (end : ℕ) → Pages p bits first at ws last end → length last ≡ length first + length ws
length_pages p bits first at [] last end h = omega (arith, ap (λ (l : List Whole). length l) h.0)
length_pages p bits first at (w ∷ ws) last end h = omega (arith, length_pages p bits (w ∷ first) w.end ws last end h.2)

pub all_records : (p : Parameters) (bits : List Bool) (r : AllRecords p bits) → length r.records ≡ p.nodes
all_records p bits r = omega (arith, length_pages p bits [] 0 r.records r.behind r.end r.pages, r.all)

-- ---- the record of a page

-- the records before x, the nearest first, behind these
pub earlier : ℕ → List Whole → List Whole → List Whole
earlier zero ws first = first
earlier (suc x) [] first = first
earlier (suc x) (w ∷ ws) first = earlier x ws (w ∷ first)

pub start_at : ℕ → List Whole → ℕ → ℕ
start_at at ws zero = at
start_at at ws (suc x) = (get_or ws x no_record).end

next_start : (at : ℕ) (w : Whole) (ws : List Whole) (x : ℕ) → start_at w.end ws x ≡ start_at at (w ∷ ws) (suc x)
unfolding start_at
next_start at w ws zero = refl
next_start at w ws (suc x) = refl

pub record_at : (p : Parameters) (bits : List Bool) (first : List Whole) (at : ℕ) (ws last : List Whole) (end x : ℕ) → Pages p bits first at ws last end → x < length ws → ReadsRecord p (context_of p (earlier x ws first)) bits (start_at at ws x) (Ok (get_or ws x no_record))
unfolding earlier start_at
record_at p bits first at [] last end x h lt = absurd (omega (arith, lt))
record_at p bits first at (w ∷ ws) last end zero h lt = h.1
record_at p bits first at (w ∷ ws) last end (suc x) h lt =
    subst (λ (k : ℕ). ReadsRecord p (context_of p (earlier x ws (w ∷ first))) bits k (Ok (get_or ws x no_record))) (next_start at w ws x) (record_at p bits (w ∷ first) w.end ws last end x h.2 (omega (arith, lt)))

starts_within : (p : Parameters) (bits : List Bool) (first : List Whole) (at : ℕ) (ws last : List Whole) (end x : ℕ) → Pages p bits first at ws last end → x < length ws → at ≤ length bits → start_at at ws x ≤ length bits
unfolding start_at
starts_within p bits first at [] last end x h lt fits = absurd (omega (arith, lt))
starts_within p bits first at (w ∷ ws) last end zero h lt fits = fits
starts_within p bits first at (w ∷ ws) last end (suc x) h lt fits =
    subst (λ (k : ℕ). k ≤ length bits) (next_start at w ws x) (starts_within p bits (w ∷ first) w.end ws last end x h.2 (omega (arith, lt)) (record_within p (context_of p first) bits at w fits h.1))

earlier_past : (ws first : List Whole) (x j : ℕ) → x ≤ length ws → get_or (earlier x ws first) (x + j) no_record ≡ get_or first j no_record
unfolding earlier
earlier_past ws first zero j le = ap (λ (k : ℕ). get_or first k no_record) (omega arith)
earlier_past [] first (suc x) j le = absurd (omega (arith, le))
earlier_past (w ∷ ws) first (suc x) j le =
    let place : suc x + j ≡ x + suc j = omega arith in
    ap (λ (k : ℕ). get_or (earlier x ws (w ∷ first)) k no_record) place ∙ earlier_past ws (w ∷ first) x (suc j) (omega (arith, le))

earlier_get : (ws first : List Whole) (x k : ℕ) → k < x → x ≤ length ws → get_or (earlier x ws first) k no_record ≡ get_or ws (x - suc k) no_record
unfolding earlier
earlier_get ws first zero k lt le = absurd (omega (arith, lt))
earlier_get [] first (suc x) k lt le = absurd (omega (arith, le))
earlier_get (w ∷ ws) first (suc x) k lt le =
    elim (cases_lt k x) [
      | inl less ↦
          let place : suc (x - suc k) ≡ suc x - suc k = omega (arith, less) in
          earlier_get ws (w ∷ first) x k less (omega (arith, le)) ∙ ap (λ (j : ℕ). get_or (w ∷ ws) j no_record) place
      | inr ge ↦
          let same : k ≡ x + 0 = omega (arith, ge, lt) in
          let none : 0 ≡ suc x - suc k = omega (arith, ge, lt) in
          ap (λ (j : ℕ). get_or (earlier x ws (w ∷ first)) j no_record) same ∙ earlier_past ws (w ∷ first) x 0 (omega (arith, le)) ∙ ap (λ (j : ℕ). get_or (w ∷ ws) j no_record) none
    ]

pub earlier_length : (ws first : List Whole) (x : ℕ) → x ≤ length ws → length (earlier x ws first) ≡ x + length first
unfolding earlier
earlier_length ws first zero le = omega arith
earlier_length [] first (suc x) le = absurd (omega (arith, le))
earlier_length (w ∷ ws) first (suc x) le = omega (arith, earlier_length ws (w ∷ first) x (omega (arith, le)))

-- ---- the places

pub start_is : (ws : List Whole) (x : ℕ) → start_at 0 ws x ≡ offset_at ws x
unfolding start_at
start_is ws zero = refl
start_is ws (suc x) = refl

pub offset_within : (p : Parameters) (bits : List Bool) (r : AllRecords p bits) (x : ℕ) → x < p.nodes → offset_at r.records x ≤ length bits
offset_within p bits r x lt = subst (λ (k : ℕ). k ≤ length bits) (start_is r.records x) (starts_within p bits [] 0 r.records r.behind r.end x r.pages (omega (arith, lt, all_records p bits r)) (omega arith))

-- ---- the page that it refers to

take_get : (n k : ℕ) (xs : List Known) → k < n → get_or (take n xs) k no_page ≡ get_or xs k no_page
take_get zero k xs lt = absurd (omega (arith, lt))
take_get (suc n) k [] lt = refl
take_get (suc n) zero (x ∷ xs) lt = refl
take_get (suc n) (suc k) (x ∷ xs) lt = take_get n k xs (omega (arith, lt))

known_get : (ws : List Whole) (k : ℕ) → get_or (map (λ w. w.known) ws) k no_page ≡ (get_or ws k no_record).known
known_get [] k = refl
known_get (w ∷ ws) zero = refl
known_get (w ∷ ws) (suc k) = known_get ws k

pub behind_get : (p : Parameters) (ws : List Whole) (x r : ℕ) → suc r ≤ x → suc r ≤ p.window → x ≤ length ws → get_or (context_of p (earlier x ws [])).behind r no_page ≡ known_at ws (x - suc r)
behind_get p ws x r near reach le =
    take_get p.window r (map (λ w. w.known) (earlier x ws [])) (omega (arith, reach)) ∙ known_get (earlier x ws []) r ∙ ap (λ (w : Whole). w.known) (earlier_get ws [] x r (omega (arith, near)) le)

below_same : (p : Parameters) (ws : List Whole) (x r : ℕ) → r ≤ x → r ≤ p.window → x ≤ length ws → below_of (context_of p (earlier x ws [])) r ≡ below_at ws x r
below_same p ws x zero near reach le = refl
below_same p ws x (suc r) near reach le = ap (λ (k : Known). Some k.list) (behind_get p ws x r near reach le)

depth_same : (p : Parameters) (ws : List Whole) (x r : ℕ) → r ≤ x → r ≤ p.window → x ≤ length ws → depth_of (context_of p (earlier x ws [])).behind r ≡ depth_at ws x r
depth_same p ws x zero near reach le = refl
depth_same p ws x (suc r) near reach le = ap (λ (k : Known). suc k.depth) (behind_get p ws x r near reach le)

abbrev WithReference : Parameters → ℕ → Option (List ℕ) → List Bool → ℕ → List ℕ → ℕ → ℕ → Type 0
WithReference p page below bits at list r end = (h : IsRecord p page below (record { bits = bits; at = at }) list) × (value_or_0 h.whole.reference ≡ r) × (h.end ≡ end)

-- how far back the record of a page refers, and where it ends
pub record Found (p : Parameters) (bits : List Bool) (records : List Whole) (x : ℕ) : Type 0 where
  pub r : ℕ
  pub reach : r ≤ p.window
  pub refers : Refers p bits records x r
  pub reference : value_or_0 refers.proper.whole.reference ≡ r
  pub end : refers.proper.end ≡ offset_at records (suc x)

found_on : (p : Parameters) (bits : List Bool) (ws : List Whole) (x at : ℕ) → x < length ws → at ≡ offset_at ws x → Judged p (context_of p (earlier x ws [])) bits at (get_or ws x no_record) → Found p bits ws x
found_on p bits ws x at lt place j =
    let page : length (earlier x ws []) ≡ x = omega (arith, earlier_length ws [] x (omega (arith, lt))) in
    let near : j.r ≤ x = omega (arith, j.near, page) in
    let reach : j.r ≤ p.window = omega (arith, j.near) in
    let le : x ≤ length ws = omega (arith, lt) in
    let one : WithReference p (length (earlier x ws [])) (below_of (context_of p (earlier x ws [])) j.r) bits at (known_at ws x).list j.r (offset_at ws (suc x)) = (j.proper, j.reference, j.end) in
    let two = subst (λ (k : ℕ). WithReference p k (below_of (context_of p (earlier x ws [])) j.r) bits at (known_at ws x).list j.r (offset_at ws (suc x))) page one in
    let three = subst (λ (b : Option (List ℕ)). WithReference p x b bits at (known_at ws x).list j.r (offset_at ws (suc x))) (below_same p ws x j.r near reach le) two in
    let four = subst (λ (k : ℕ). WithReference p x (below_at ws x j.r) bits k (known_at ws x).list j.r (offset_at ws (suc x))) place three in
    record {
      r = j.r;
      reach = reach;
      refers = record { near = near; proper = four.0; depth = j.depth ∙ depth_same p ws x j.r near reach le };
      reference = four.1;
      end = four.2;
    }

pub found_of : (p : Parameters) (bits : List Bool) (r : AllRecords p bits) (x : ℕ) → x < p.nodes → Found p bits r.records x
found_of p bits r x lt =
    let there : x < length r.records = omega (arith, lt, all_records p bits r) in
    found_on p bits r.records x (start_at 0 r.records x) there (start_is r.records x) (judged_of p (context_of p (earlier x r.records [])) bits (start_at 0 r.records x) (get_or r.records x no_record) (record_at p bits [] 0 r.records r.behind r.end x r.pages there))

-- a place for each record, and one after the last
pub offsets_count : (p : Parameters) (bits : List Bool) (r : AllRecords p bits) (places : List ℕ) → places ≡ 0 ∷ map (λ w. w.end) r.records → length places ≡ p.nodes + 1
offsets_count p bits r places e = omega (arith, ap (λ (l : List ℕ). length l) e, length-map r.records (λ (w : Whole). w.end), all_records p bits r)
