-- Pages by their chains of references.
use Rattle.std.proofs.Common.{refl, sym, ap, subst, arith, length-append}
use Rattle.std.proofs.Common.{◌≡◌, ◌∙◌, ℕ, zero, suc, ◌+◌, ◌-◌, ◌<◌, ◌≤◌, Bool, inl, inr, List, [], ◌∷◌, ◌++◌, length, replicate, Result, Ok, Err, take}
use Rattle.std.specs.Prelude.{get_or, IfOk}
use Rattle.std.specs.List.{range_with_len}
use Rattle.std.proofs.lemmas.Bool.{cases_lt}
use Rattle.std.proofs.lemmas.List.{get_or-replicate, get_or_append_left, get_or_push, length-take-le}
use Rattle.std.proofs.lemmas.List.FromFn.{get_or-range_with_len}
use Rattle.wg_params.specs.Parameters.{Parameters, IsWithinLimits}
use Rattle.wg_graph.specs.Ascending.{Ascends, Below}
use Rattle.wg_graph.specs.Pieces.{pieces, EndsAt}
use Rattle.wg_graph.proofs.Ends.{length-pieces}
use Rattle.wg_grammar.specs.declared.fault.ArchiveFault.{ArchiveFault}
use Rattle.wg_grammar.specs.declared.fault.ArchiveFault.TheVariants as faults
use Rattle.wg_grammar.specs.declared.fault.Fault.{Fault}
use Rattle.wg_grammar.specs.Context.{Known, no_page, depth_of}
use Rattle.wg_grammar.specs.declared.error.ReadError.{ReadError}
use Rattle.wg_grammar.specs.Errors.{OnFault}
use Rattle.wg_grammar.proofs.ErrorLemmas.{faults_weaker}
use Rattle.wg_grammar.proofs.OneGraph.{lists_ascend}
use Rattle.wg_decoder.specs.Apart.{page_over}
use Rattle.wg_decoder.specs.Chains.{start_of, HeadReads, RecordReads, EndReads, OverReads, ChainReads, SpotReads, IsHeadFault}
use Rattle.wg_decoder.specs.Handed.{page_of}
use Rattle.wg_decoder.specs.declared.decoded.Decoded.{Decoded}
use Rattle.wg_decoder.specs.Remembered.{known_of}
use Rattle.wg_stream.proofs.SpotOne.{same_reference}
use Rattle.wg_random.proofs.SpotMoves.{Apart, apart_of}
use Rattle.wg_memory.specs.Answers.{HasList}
use Rattle.wg_memory.specs.declared.many.Stop.{Stop}
use Rattle.wg_memory.specs.Many.{AreListsOf, AreSpots, StopsAt, end_before}
use Rattle.wg_memory.specs.Range.{AreKnown}

deep_one : (n r : ℕ) (k : Known) → 0 < r → r ≤ n → depth_of (replicate n k) r ≡ suc k.depth
deep_one n zero k some near = absurd (omega (arith, some))
deep_one n (suc r) k some near = ap (λ (j : Known). suc j.depth) (get_or-replicate n r k no_page (omega (arith, near)))

module _ (p : Parameters) (bits : List Bool) (offsets : List ℕ) where
  -- ---- what a page is, by what the page that its record refers to is

  pub spot_alone : (y : ℕ) (w : Result Known ArchiveFault) → HeadReads p bits offsets y (Ok 0) → RecordReads p bits offsets y no_page w → SpotReads p bits offsets y w
  spot_alone y w head reads = ([], (Ok 0, head, reads))

  pub spot_over : (y r : ℕ) (v w : Result Known ArchiveFault) → 0 < r → HeadReads p bits offsets y (Ok r) → SpotReads p bits offsets (y - r) v → OverReads p bits offsets y v w
      → SpotReads p bits offsets y w
  spot_over y r v w some head below over = ((y - r) ∷ below.0, ((r, some, head, refl), v, below.1, over))

  pub head_fails : (y : ℕ) (f : ArchiveFault) → IsHeadFault p bits offsets y f → SpotReads p bits offsets y (Err f)
  head_fails y f bad = subst (λ (g : ArchiveFault). SpotReads p bits offsets y (Err g)) (sym bad.1) ([], (Err bad.0, bad.2, refl))

  -- its record is read over no other page
  pub list_alone : {R : Type 0} (y r : ℕ) (result : Result Decoded (ReadError ArchiveFault R)) → r ≡ 0 → HeadReads p bits offsets y (Ok r)
      → IfOk result (λ d. RecordReads p bits offsets y no_page (Ok (known_of d))) → IfOk result (λ d. SpotReads p bits offsets y (Ok (known_of d)))
  list_alone y r (Ok d) none head reads = spot_alone y (Ok (known_of d)) (subst (λ (n : ℕ). HeadReads p bits offsets y (Ok n)) none head) reads
  list_alone y r (Err e) none head reads = tt

  pub error_alone : {R : Type 0} (y r : ℕ) (result : Result Decoded (ReadError ArchiveFault R)) → r ≡ 0 → HeadReads p bits offsets y (Ok r)
      → OnFault result (λ f. RecordReads p bits offsets y no_page (Err f)) → OnFault result (λ f. SpotReads p bits offsets y (Err f))
  error_alone y r result none head = faults_weaker result _ _ (λ f reads. spot_alone y (Err f) (subst (λ (n : ℕ). HeadReads p bits offsets y (Ok n)) none head) reads)

  -- or over this one
  pub list_over : {R : Type 0} (y r : ℕ) (below : Known) (result : Result Decoded (ReadError ArchiveFault R)) → 0 < r → HeadReads p bits offsets y (Ok r)
      → SpotReads p bits offsets (y - r) (Ok below) → IfOk result (λ d. RecordReads p bits offsets y below (Ok (known_of d))) → IfOk result (λ d. SpotReads p bits offsets y (Ok (known_of d)))
  list_over y r below (Ok d) some head known reads = spot_over y r (Ok below) (Ok (known_of d)) some head known reads
  list_over y r below (Err e) some head known reads = tt

  pub error_over : {R : Type 0} (y r : ℕ) (below : Known) (result : Result Decoded (ReadError ArchiveFault R)) → 0 < r → HeadReads p bits offsets y (Ok r)
      → SpotReads p bits offsets (y - r) (Ok below) → OnFault result (λ f. RecordReads p bits offsets y below (Err f)) → OnFault result (λ f. SpotReads p bits offsets y (Err f))
  error_over y r below result some head known = faults_weaker result _ _ (λ f reads. spot_over y r (Ok below) (Err f) some head known reads)

  -- by its list and its depth
  pub known_by : (y : ℕ) (list named : List ℕ) (depth : ℕ) → named ≡ list → HasList p bits offsets y list → ((k : Known) → SpotReads p bits offsets y (Ok k) → k.depth ≡ depth)
      → SpotReads p bits offsets y (Ok (page_of named depth))
  known_by y list named depth lent has deep =
      let k : Known = has.0 in
      subst (λ (l : List ℕ). SpotReads p bits offsets y (Ok (page_of l depth))) (sym (lent ∙ has.2))
      (subst (λ (n : ℕ). SpotReads p bits offsets y (Ok (page_of k.list n))) (deep k has.1) has.1)

  -- ---- what is known of a page with a list

  end_record : (y : ℕ) (h : Result ℕ Fault) (k : Known) → EndReads p bits offsets y h (Ok k) → RecordReads p bits offsets y no_page (Ok k) × (h ≡ Ok 0)
  end_record y (Ok zero) k reads = (reads, refl)
  end_record y (Ok (suc r)) k reads = absurd reads
  end_record y (Err e) k reads = absurd (let bad : (let x : Result Known ArchiveFault = Ok k in x) ≡ Err (faults.Record e) = reads in cc)

  over_record : (y z : ℕ) (zs : List ℕ) (v : Result Known ArchiveFault) (k : Known) → ChainReads p bits offsets z zs v → OverReads p bits offsets y v (Ok k)
      → (below : Known) × ChainReads p bits offsets z zs (Ok below) × RecordReads p bits offsets y below (Ok k)
  over_record y z zs (Ok below) k reads over = (below, reads, over)
  over_record y z zs (Err f) k reads over = absurd (let bad : (let x : Result Known ArchiveFault = Ok k in x) ≡ Err f = over in cc)

  any_record : (y : ℕ) (zs : List ℕ) (k : Known) → ChainReads p bits offsets y zs (Ok k) → (below : Known) × RecordReads p bits offsets y below (Ok k)
  any_record y [] k h = (no_page, (end_record y h.0 k h.2).0)
  any_record y (z ∷ zs) k h = let over = over_record y z zs h.1 k h.2 h.3 in (over.0, over.2)

module _ (p : Parameters) (limits : IsWithinLimits p) (bits : List Bool) (offsets : List ℕ) where
  -- a page is one deeper than the one that its record refers to
  one_deeper : (y r : ℕ) (below k : Known) → 0 < r → HeadReads p bits offsets y (Ok r) → RecordReads p bits offsets y below (Ok k) → (k.depth ≡ suc below.depth) × (r ≤ y)
  one_deeper y r below k some head reads =
      let a : Apart p (page_over p y below) bits (start_of offsets y) (record { known = k; end = start_of offsets (y + 1) }) = apart_of p (page_over p y below) bits (start_of offsets y) _ reads in
      let same : r ≡ a.r = same_reference p limits bits offsets y r a.r head a.head in
      (a.depth ∙ deep_one p.window a.r below (omega (arith, some, same)) (omega (arith, a.near)), omega (arith, same, a.near))

  -- it has no depth if its record refers to none
  no_deeper : (y : ℕ) (below k : Known) → HeadReads p bits offsets y (Ok 0) → RecordReads p bits offsets y below (Ok k) → k.depth ≡ 0
  no_deeper y below k head reads =
      let a : Apart p (page_over p y below) bits (start_of offsets y) (record { known = k; end = start_of offsets (y + 1) }) = apart_of p (page_over p y below) bits (start_of offsets y) _ reads in
      let same : 0 ≡ a.r = same_reference p limits bits offsets y 0 a.r head a.head in
      a.depth ∙ ap (λ (r : ℕ). depth_of (replicate p.window below) r) (sym same)

  end_deep : (y : ℕ) (h : Result ℕ Fault) (k : Known) → HeadReads p bits offsets y h → EndReads p bits offsets y h (Ok k) → k.depth ≡ 0
  end_deep y h k head reads =
      let end = end_record p bits offsets y h k reads in
      no_deeper y no_page k (subst (λ (x : Result ℕ Fault). HeadReads p bits offsets y x) end.1 head) end.0

  chain_deep : (y : ℕ) (zs : List ℕ) (k : Known) → ChainReads p bits offsets y zs (Ok k) → k.depth ≤ y
  chain_deep y [] k h = omega (arith, end_deep y h.0 k h.1 h.2)
  chain_deep y (z ∷ zs) k h =
      let over = over_record p bits offsets y z zs h.1 k h.2 h.3 in
      let one = one_deeper y h.0.0 over.0 k h.0.1 h.0.2 over.2 in
      omega (arith, chain_deep z zs over.0 over.1, one.0, one.1, h.0.1, h.0.3)

  -- its list may be read, and its depth may be
  pub spot_fine : (x : ℕ) (k : Known) → SpotReads p bits offsets x (Ok k) → Ascends 0 k.list × Below p.nodes k.list × (k.depth ≤ x)
  spot_fine x k h =
      let reads = any_record p bits offsets x h.0 k h.1 in
      let fine = lists_ascend p (page_over p x reads.0) bits (start_of offsets x) _ reads.1 in
      (fine.0, fine.1, chain_deep x h.0 k h.1)

  -- ---- down the chain

  chain_down : (y r : ℕ) (zs : List ℕ) (k : Known) → 0 < r → HeadReads p bits offsets y (Ok r) → ChainReads p bits offsets y zs (Ok k)
      → (below : Known) × SpotReads p bits offsets (y - r) (Ok below) × (k.depth ≡ suc below.depth)
  chain_down y r [] k some head h =
      let end = end_record p bits offsets y h.0 k h.2 in
      absurd (omega (arith, some, same_reference p limits bits offsets y r 0 head (subst (λ (x : Result ℕ Fault). HeadReads p bits offsets y x) end.1 h.1)))
  chain_down y r (z ∷ zs) k some head h =
      let over = over_record p bits offsets y z zs h.1 k h.2 h.3 in
      let same : r ≡ h.0.0 = same_reference p limits bits offsets y r h.0.0 head h.0.2 in
      let place : z ≡ y - r = h.0.3 ∙ ap (λ (n : ℕ). y - n) (sym same) in
      (over.0, (zs, subst (λ (n : ℕ). ChainReads p bits offsets n zs (Ok over.0)) place over.1), (one_deeper y r over.0 k some head over.2).0)

  pub spot_down : (y r : ℕ) (k : Known) → 0 < r → HeadReads p bits offsets y (Ok r) → SpotReads p bits offsets y (Ok k)
      → (below : Known) × SpotReads p bits offsets (y - r) (Ok below) × (k.depth ≡ suc below.depth)
  spot_down y r k some head h = chain_down y r h.0 k some head h.1

  pub spot_end : (y : ℕ) (k : Known) → HeadReads p bits offsets y (Ok 0) → SpotReads p bits offsets y (Ok k) → k.depth ≡ 0
  spot_end y k head h = let reads = any_record p bits offsets y h.0 k h.1 in no_deeper y reads.0 k head reads.1

-- ---- the pages of a range

module _ (p : Parameters) (bits : List Bool) (places : List ℕ) where
  pub known_more : (first : ℕ) (lists : List (List ℕ)) (depths list : List ℕ) (depth : ℕ) → AreKnown p bits places first lists depths
      → SpotReads p bits places (first + length lists) (Ok (page_of list depth)) → AreKnown p bits places first (lists ++ list ∷ []) (depths ++ depth ∷ [])
  known_more first lists depths list depth h one = record {
    many = omega (arith, h.many, length-append depths (depth ∷ []), length-append lists (list ∷ []));
    reads = λ i lt. elim (cases_lt i (length lists)) [
      | inl before ↦
          rw (get_or_append_left lists (list ∷ []) [] i before, get_or_append_left depths (depth ∷ []) 0 i (omega (arith, h.many, before))) (h.reads i before)
      | inr past ↦
          let here : length lists ≡ i = omega (arith, lt, past, length-append lists (list ∷ [])) in
          rw (get_or_push lists list [] i here, get_or_push depths depth 0 i (h.many ∙ here)) (subst (λ (n : ℕ). SpotReads p bits places (first + n) (Ok (page_of list depth))) here one)
    ];
  }

  pub lists_known : (first n : ℕ) (lists : List (List ℕ)) (depths : List ℕ) → AreKnown p bits places first lists depths → length lists ≤ n
      → AreListsOf p bits places (range_with_len first n) lists
  lists_known first n lists depths h few = λ i lt.
      subst (λ (x : ℕ). HasList p bits places x (get_or lists i [])) (sym (get_or-range_with_len first n i 0 (omega (arith, lt, few))))
      (page_of (get_or lists i []) (get_or depths i 0), h.reads i lt, refl)

  pub spots_known : (first n : ℕ) (ends out depths : List ℕ) (done used : ℕ) → end_before ends done ≡ used → used ≤ length out → done ≤ length ends → done ≤ n
      → EndsAt 0 (take done ends) (length (take used out)) → AreKnown p bits places first (pieces 0 (take done ends) (take used out)) depths
      → AreSpots p bits places (range_with_len first n) done ends out
  spots_known first n ends out depths done used last few long within whole h = record {
    used = used;
    last = last;
    few = few;
    long = long;
    whole = whole;
    lists = lists_known first n _ depths h (omega (arith, length-pieces 0 (take done ends) (take used out), length-take-le done ends long, within));
  }

  pub stops_same : (page page1 used used1 room room1 : ℕ) (why : Stop) → page ≡ page1 → used ≡ used1 → room ≡ room1 → StopsAt p bits places page used room why
      → StopsAt p bits places page1 used1 room1 why
  stops_same page page1 used used1 room room1 why same_page same_used same_room h =
      subst (λ (n : ℕ). StopsAt p bits places n used1 room1 why) same_page
      (subst (λ (n : ℕ). StopsAt p bits places page n room1 why) same_used (subst (λ (n : ℕ). StopsAt p bits places page used n why) same_room h))
