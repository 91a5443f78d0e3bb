-- The rows of a sweep.
use Rattle.std.proofs.Common.{◌≡◌, ℕ, zero, suc, ◌-◌, ◌<◌, ◌≤◌, ◌≢◌, Bool, inl, inr, List, [], ◌∷◌, ◌++◌, length, take, drop, map, Option, Ok, Err, Result, refl, sym, ap, subst, ◌∙◌, arith}
use Rattle.std.specs.Prelude.{get_or, set, max, All}
use Rattle.std.proofs.Math.Logic.{∥∥₁_elim}
use Rattle.std.proofs.lemmas.Bool.{cases_lt}
use Rattle.std.proofs.lemmas.List.{length-set, get_or-set_same, get_or-set_other, length-map}
use Rattle.std.proofs.lemmas.List.Elements.{All-cons, All-get_or, All-nil, All-weaker}
use Rattle.wg_params.specs.Parameters.{Parameters, IsWithinLimits}
use Rattle.wg_bits.specs.Bits.{Position, bits_of}
use Rattle.wg_graph.specs.Ascending.{Ascends}
use Rattle.wg_graph.specs.Filled.{Filled}
use Rattle.wg_grammar.specs.declared.fault.ArchiveFault.{ArchiveFault}
use Rattle.wg_grammar.specs.SoFar.{value_or_0}
use Rattle.wg_grammar.specs.Record.{Whole}
use Rattle.wg_grammar.specs.Archive.{Accepted, ReadsGraph, lists_of}
use Rattle.wg_grammar.proofs.OneGraph.{graph_one, lists_ascend}
use Rattle.wg_decoder.specs.Proper.Laid.{list_or_none}
use Rattle.wg_decoder.specs.Proper.{IsRecord}
use Rattle.wg_stream.proofs.PrefixLemmas.{lists_more}
use Rattle.wg_stream.specs.AllRecords.{AllRecords, no_record, known_at, offset_at}
use Rattle.wg_stream.specs.References.{below_at}
use Rattle.wg_stream.specs.Sweeping.{greatest_outdegree, StandFor, HaveGraph, no_row, IsBack, AreKept, IsNext}
use Rattle.wg_stream.specs.OneStands.{one_set, stand_one}
use Rattle.wg_stream.proofs.AllRecords.{all_records, record_at, found_of}
use Rattle.wg_stream.proofs.AcceptedRecords.{list_at}

-- ---- the graph

-- the graph that they have is the one that they stand for
graph_is_one : (p : Parameters) (bits : List Bool) (g : List (List ℕ)) → StandFor p bits g → (h : HaveGraph p bits) → h.0 ≡ g
graph_is_one p bits g b h = ∥∥₁_elim h.1 (one_set h.0 g) (λ a. stand_one p bits h.0 g a b)

-- the graph of equal parameters and bytes is the one that these stand for
pub graph_there : (p q : Parameters) (xs ys : List ℕ) (g : List (List ℕ)) → q ≡ p → ys ≡ xs → StandFor p (bits_of xs) g → (h : HaveGraph q (bits_of ys)) → h.0 ≡ g
graph_there p q xs ys g same is b =
    subst (λ (r : Parameters). (h : HaveGraph r (bits_of ys)) → h.0 ≡ g) (sym same) (subst (λ (l : List ℕ). (h : HaveGraph p (bits_of l)) → h.0 ≡ g) (sym is) (graph_is_one p (bits_of xs) g b))

-- ---- rows in turn

-- If the turn went on by one row, one row back is the one that was filled, and any other is one row nearer before that.
one_more : (n turn next row back : ℕ) → turn < n → row < n → 1 < back → back ≤ n → IsBack n next 1 turn → IsBack n next back row → (row ≢ turn) × IsBack n turn (back - 1) row
one_more n turn next row back within lt some near (inl on) (inl there) = (λ e. omega (arith, on, there, e, some), inl (omega (arith, on, there, some)))
one_more n turn next row back within lt some near (inl on) (inr there) = (λ e. omega (arith, on, there, e, near), inr (omega (arith, on, there, some)))
one_more n turn next row back within lt some near (inr over) (inl there) = absurd (omega (arith, over, there, within, some))
one_more n turn next row back within lt some near (inr over) (inr there) = (λ e. omega (arith, over, there, e, some), inl (omega (arith, over, there, some)))

one_back : (n turn next row : ℕ) → turn < n → row < n → IsBack n next 1 turn → IsBack n next 1 row → row ≡ turn
one_back n turn next row within lt (inl on) (inl there) = omega (arith, on, there)
one_back n turn next row within lt (inl on) (inr there) = absurd (omega (arith, on, there, lt))
one_back n turn next row within lt (inr over) (inl there) = absurd (omega (arith, over, there, within))
one_back n turn next row within lt (inr over) (inr there) = omega (arith, over, there)

-- the list of the page before takes the place of one that is out of reach
pub kept_more : (records : List Whole) (page turn next : ℕ) (rows : List Filled) (list : Filled) → turn < length rows → IsBack (length rows) next 1 turn → AreKept records (page - 1) rows turn
    → (0 < page → list.list ≡ (known_at records (page - 1)).list) → AreKept records page (set rows turn list) next
kept_more records page turn next rows list within on kept is row back lt some before near there =
    let len : length (set rows turn list) ≡ length rows = length-set rows turn list in
    let low : row < length rows = omega (arith, lt, len) in
    let reach : back ≤ length rows = omega (arith, near, len) in
    let from : IsBack (length rows) next back row = subst (λ (k : ℕ). IsBack k next back row) len there in
    elim (cases_lt 1 back) [
      | inl more ↦
          let g = one_more (length rows) turn next row back within low more reach on from in
          ap (λ (f : Filled). f.list) (get_or-set_other rows turn row list no_row g.0) ∙ kept row (back - 1) low (omega (arith, more)) (omega (arith, before, more)) (omega (arith, reach)) g.1
          ∙ ap (λ (k : ℕ). (known_at records k).list) (omega (arith, more, before))
      | inr le ↦
          let one : back ≡ 1 = omega (arith, le, some) in
          let here : row ≡ turn = one_back (length rows) turn next row within low on (subst (λ (k : ℕ). IsBack (length rows) next k row) one from) in
          ap (λ (k : ℕ). (get_or (set rows turn list) k no_row).list) here ∙ ap (λ (f : Filled). f.list) (get_or-set_same rows turn list no_row within) ∙ is (omega (arith, some, before))
          ∙ ap (λ (k : ℕ). (known_at records (page - k)).list) (sym one)
    ]

-- there is none to keep before the first page, or if there are no rows
pub kept_none : (records : List Whole) (page turn : ℕ) (rows : List Filled) → page ≡ 0 → AreKept records page rows turn
kept_none records page turn rows none row back lt some before near there = absurd (omega (arith, none, some, before))

-- ---- no fault

-- bits that stand for a graph have no fault
pub no_fault : (p : Parameters) (bits : List Bool) (a : Accepted) (f : ArchiveFault) → IsWithinLimits p → ReadsGraph p bits (Ok a) → ReadsGraph p bits (Err f) → ⊥
no_fault p bits a f limits h k = let e : (let x : Result Accepted ArchiveFault = Ok a in x) ≡ Err f = graph_one p limits bits (Ok a) (Err f) h k in cc

-- ---- the record that comes next

-- what the reader of a reference answers
abbrev pub ReadsReference : Parameters → Position → ℕ → Type 0
ReadsReference p c result = (page : ℕ) (below : Option (List ℕ)) (list : List ℕ) (h : IsRecord p page below c list) → result ≡ value_or_0 h.whole.reference

-- it stands at the position q
pub record NextRecord (p : Parameters) (bits : List Bool) (r : AllRecords p bits) (page : ℕ) (q : Position) : Type 0 where
  pub back : ℕ
  pub near : back ≤ page
  pub reach : back ≤ p.window
  pub proper : IsRecord p page (below_at r.records page back) q (known_at r.records page).list
  pub reference : value_or_0 proper.whole.reference ≡ back
  pub end : proper.end ≡ offset_at r.records (suc page)

pub next_record : (p : Parameters) (bits : List Bool) (r : AllRecords p bits) (page at turn : ℕ) (kept : List Filled) (q : Position) → page < p.nodes → q ≡ (let x : Position = record { bits = bits; at = at } in x) → IsNext p bits r page at kept turn → NextRecord p bits r page q
next_record p bits r page at turn kept q lt is n =
    let f = found_of p bits r page lt in
    let there : q ≡ (let x : Position = record { bits = bits; at = offset_at r.records page } in x) = is ∙ ap (λ (k : ℕ). record { bits = bits; at = k }) n.begins in
    subst (λ (x : Position). NextRecord p bits r page x) (sym there) (record { back = f.r; near = f.refers.near; reach = f.reach; proper = f.refers.proper; reference = f.reference; end = f.end })

-- so far back it refers
pub back_is : (p : Parameters) (bits : List Bool) (r : AllRecords p bits) (page : ℕ) (q : Position) (result : ℕ) → ReadsReference p q result → (n : NextRecord p bits r page q) → result ≡ n.back
back_is p bits r page q result reads n = reads page (below_at r.records page n.back) (known_at r.records page).list n.proper ∙ n.reference

pub back_near : (p : Parameters) (bits : List Bool) (r : AllRecords p bits) (page : ℕ) (q : Position) (result : ℕ) → ReadsReference p q result → NextRecord p bits r page q → result ≤ page
back_near p bits r page q result reads n = omega (arith, n.near, back_is p bits r page q result reads n)

pub back_reach : (p : Parameters) (bits : List Bool) (r : AllRecords p bits) (page at turn : ℕ) (kept : List Filled) (q : Position) (result : ℕ) → page < p.nodes → ReadsReference p q result → IsNext p bits r page at kept turn → NextRecord p bits r page q → result ≤ length kept
back_reach p bits r page at turn kept q result lt reads next n = omega (arith, lt, n.near, n.reach, next.enough, back_is p bits r page q result reads n)

-- ---- lists ascend

past_end : (ws : List Whole) (x : ℕ) → length ws ≤ x → get_or ws x no_record ≡ no_record
past_end [] x le = refl
past_end (w ∷ ws) zero le = absurd (omega (arith, le))
past_end (w ∷ ws) (suc x) le = past_end ws x (omega (arith, le))

known_ascends : (p : Parameters) (bits : List Bool) (r : AllRecords p bits) (x : ℕ) → Ascends 0 (known_at r.records x).list
known_ascends p bits r x =
    elim (cases_lt x (length r.records)) [
      | inl lt ↦ (lists_ascend p _ bits _ _ (record_at p bits [] 0 r.records r.behind r.end x r.pages lt)).0
      | inr ge ↦ subst (λ (w : Whole). Ascends 0 w.known.list) (sym (past_end r.records x ge)) tt
    ]

pub below_ascends : (p : Parameters) (bits : List Bool) (r : AllRecords p bits) (page back : ℕ) → Ascends 0 (list_or_none (below_at r.records page back))
below_ascends p bits r page zero = tt
below_ascends p bits r page (suc k) = known_ascends p bits r (page - suc k)

-- ---- what stands at the cursor, against the list that was found

-- the list below is the one that the record refers to
pub record Below (p : Parameters) (bits : List Bool) (r : AllRecords p bits) (page : ℕ) (q : Position) (below : Option (List ℕ)) : Type 0 where
  pub ascends : Ascends 0 (list_or_none below)
  pub proper : IsRecord p page below q (known_at r.records page).list
  pub end : proper.end ≡ offset_at r.records (suc page)

pub found_below : (p : Parameters) (bits : List Bool) (r : AllRecords p bits) (page at turn : ℕ) (kept : List Filled) (q again : Position) (back : ℕ) (below : Option (List ℕ)) → page < p.nodes → q ≡ (let x : Position = record { bits = bits; at = at } in x) → again ≡ q
    → ReadsReference p again back → IsNext p bits r page at kept turn
    → (back ≤ page → AreKept r.records page kept turn → below ≡ below_at r.records page back) → Below p bits r page q below
found_below p bits r page at turn kept q again back below lt is same reads next gives =
    let n = next_record p bits r page at turn kept q lt is next in
    let here = subst (λ (x : Position). ReadsReference p x back) same reads in
    let back_same : n.back ≡ back = sym (back_is p bits r page q back here n) in
    let e = gives (back_near p bits r page q back here n) next.before in
    subst (Below p bits r page q) (sym (e ∙ ap (below_at r.records page) (sym back_same)))
    (record { ascends = below_ascends p bits r page n.back; proper = n.proper; end = n.end })

-- ---- the greatest list fits

pub fits_room : (p : Parameters) (bits : List Bool) (r : AllRecords p bits) (graph : List (List ℕ)) (room page : ℕ) → graph ≡ map (λ w. w.known.list) r.records → page < p.nodes → All (λ s. length s ≤ room) graph → length (known_at r.records page).list ≤ room
fits_room p bits r graph room page is lt all =
    let long : page < length graph = omega (arith, lt, all_records p bits r, ap (λ (l : List (List ℕ)). length l) is, length-map r.records (λ (w : Whole). w.known.list)) in
    let here : get_or graph page [] ≡ (known_at r.records page).list = ap (λ (l : List (List ℕ)). get_or l page []) is ∙ list_at r.records page in
    subst (λ (l : List ℕ). length l ≤ room) here (All-get_or (λ s. length s ≤ room) graph page [] long all)

-- no list is longer than the greatest outdegree
pub none_longer : (lists : List (List ℕ)) → All (λ s. length s ≤ greatest_outdegree lists) lists
none_longer [] = All-nil (λ s. length s ≤ 0)
none_longer (list ∷ lists) =
    let m = greatest_outdegree (list ∷ lists) in
    All-cons (λ s. length s ≤ m) list lists (omega arith)
    (All-weaker (λ s. length s ≤ greatest_outdegree lists) (λ s. length s ≤ m) (λ s h. omega (arith, h)) lists (none_longer lists))

greatest-push : (lists : List (List ℕ)) (list : List ℕ) → greatest_outdegree (lists ++ list ∷ []) ≡ max (greatest_outdegree lists) (length list)
greatest-push [] list = omega arith
greatest-push (s ∷ lists) list = omega (arith, greatest-push lists list)

-- one list more, and the greatest so far
pub one_greater : (behind : List Whole) (w : Whole) (g m n : ℕ) (list lent : List ℕ) → w.known.list ≡ list → lent ≡ list → n ≡ length lent → m ≡ max g n → g ≡ greatest_outdegree (lists_of behind) → m ≡ greatest_outdegree (lists_of (w ∷ behind))
one_greater behind w g m n list lent is lent_is len most same =
    omega (arith, most, len, same, ap (λ (l : List ℕ). length l) is, ap (λ (l : List ℕ). length l) lent_is, greatest-push (lists_of behind) w.known.list, ap greatest_outdegree (lists_more w behind))

-- ---- a vector that was written through a slice of it

pub written : (n : ℕ) (xs ys : List Filled) → length xs ≡ length ys → n ≡ length ys → take n (xs ++ drop (length xs) ys) ≡ xs
written zero [] ys same long = refl
written zero (x ∷ xs) ys same long = absurd (omega (arith, same, long))
written (suc n) [] ys same long = absurd (omega (arith, same, long))
written (suc n) (x ∷ xs) [] same long = absurd (omega (arith, same))
written (suc n) (x ∷ xs) (y ∷ ys) same long = ap (λ (l : List Filled). x ∷ l) (written n xs ys (omega (arith, same)) (omega (arith, long)))
