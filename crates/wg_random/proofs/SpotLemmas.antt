-- A page of an archive that was not checked.
use Rattle.std.proofs.Common.{◌≡◌, ◌≢◌, ◌∙◌, ℕ, zero, suc, ◌+◌, ◌-◌, ◌<◌, ◌≤◌, Bool, inl, inr, List, [], ◌∷◌, ◌++◌, length, drop, Result, Ok, Err, refl, sym, ap, subst, arith}
use Rattle.std.specs.Prelude.{get_or}
use Rattle.std.specs.Result.{IfOk}
use Rattle.std.proofs.Math.ListN.{drop_of_length-le}
use Rattle.std.proofs.Math.Seq.{drop-cons}
use Rattle.std.proofs.lemmas.Bool.{cases_lt}
use Rattle.std.proofs.lemmas.List.{length-drop, get_or_append_left}
use Rattle.wg_params.specs.declared.code.Code.{Code}
use Rattle.wg_params.specs.Parameters.{Parameters}
use Rattle.wg_codes.specs.Reading.{Reads}
use Rattle.wg_codes.specs.Words.{word, top}
use Rattle.wg_codes.specs.declared.outcome.Read.TheVariants as reads
use Rattle.wg_codes.proofs.CodeLaws.{word_some}
use Rattle.wg_grammar.specs.declared.fault.ArchiveFault.{ArchiveFault}
use Rattle.wg_grammar.specs.declared.fault.ArchiveFault.TheVariants as faults
use Rattle.wg_grammar.specs.declared.fault.Fault.{Fault}
use Rattle.wg_grammar.specs.declared.fault.Field.TheVariants as field
use Rattle.wg_grammar.specs.declared.fault.Kind.TheVariants as kind
use Rattle.wg_grammar.specs.Context.{Known, Context, no_page}
use Rattle.wg_grammar.specs.Record.{Whole, ReadsRecord}
use Rattle.wg_decoder.specs.Apart.{page_over, HeadStands, HeadFails}
use Rattle.wg_decoder.proofs.HeadLemmas.{head_refused}
use Rattle.wg_grammar.specs.declared.error.ReadError.{ReadError}
use Rattle.wg_grammar.specs.declared.error.ReadError.TheVariants as pages
use Rattle.wg_grammar.specs.Errors.{OfFault, OnFault}
use Rattle.wg_decoder.specs.Chains.{endless, start_of, HeadReads, RecordReads, RefersTo, OverReads, ChainReads, IsChain, IsHeadFault}
use Rattle.wg_random.specs.Spot.{ChainAnswers}
use Rattle.wg_random.proofs.ChainLemmas.{pushed_length}

-- ---- a record that begins past the last bit

cut_past : (code : Code) (bits : List Bool) (at : ℕ) → length bits ≤ at → Reads (word code) (top code) (drop at bits) reads.Cut
cut_past code bits at past =
    subst (λ (z : List Bool). Reads (word code) (top code) z reads.Cut) (sym (drop_of_length-le bits past))
    (0, (let low : 0 ≤ top code = omega arith in low), (word code 0, word_some code 0, refl))

-- an outdegree that is cut at this bit
abbrev cut_at : ℕ → ℕ → Fault
cut_at page at = record { page = page; at = at; field = field.Outdegree; kind = kind.Cut }

head_cut : (p : Parameters) (c : Context) (bits : List Bool) (at : ℕ) → length bits ≤ at → HeadFails p c bits at (cut_at c.page at)
head_cut p c bits at past = (inl (reads.Cut, cut_past p.outdegrees bits at past, refl, refl, refl), refl)

module _ (p : Parameters) (bits : List Bool) (offsets : List ℕ) where
  pub page_cut : (page : ℕ) (f : ArchiveFault) → length bits ≤ start_of offsets page → f ≡ faults.Record (cut_at page (start_of offsets page)) → IsHeadFault p bits offsets page f
  page_cut page f past is = (cut_at page (start_of offsets page), is, head_cut (endless p) (page_over p page no_page) bits (start_of offsets page) past)

  pub record_cut : (page : ℕ) (below : Known) (f : ArchiveFault) → length bits ≤ start_of offsets page → f ≡ faults.Record (cut_at page (start_of offsets page)) →
      RecordReads p bits offsets page below (Err f)
  record_cut page below f past is =
      let c = page_over p page below in
      subst (λ (g : ArchiveFault). RecordReads p bits offsets page below (Err g)) (sym is)
      (head_refused p c bits (start_of offsets page) (cut_at page (start_of offsets page)) (head_cut p c bits (start_of offsets page) past))

  -- ---- a record

  pub head_fault : (page at : ℕ) (e : Fault) → at ≡ start_of offsets page → HeadFails (endless p) (page_over p page no_page) bits at e → IsHeadFault p bits offsets page (faults.Record e)
  head_fault page at e is h = (e, refl, subst (λ (i : ℕ). HeadFails (endless p) (page_over p page no_page) bits i e) is h)

  pub head_reads : (page at d r end : ℕ) → at ≡ start_of offsets page → HeadStands (endless p) (page_over p page no_page) bits at d r end → HeadReads p bits offsets page (Ok r)
  head_reads page at d r end is h = (d, end, subst (λ (i : ℕ). HeadStands (endless p) (page_over p page no_page) bits i d r end) is h)

  -- a whole record that ends where the next begins
  pub whole_reads : (page : ℕ) (below : Known) (at end stop : ℕ) (k : Known) → at ≡ start_of offsets page → ReadsRecord p (page_over p page below) bits at (Ok (record { known = k; end = end })) →
      stop ≡ end → stop ≡ start_of offsets (page + 1) → RecordReads p bits offsets page below (Ok k)
  whole_reads page below at end stop k place h same next =
      subst (λ (i : ℕ). ReadsRecord p (page_over p page below) bits (start_of offsets page) (Ok (record { known = k; end = i }))) (sym same ∙ next)
      (subst (λ (i : ℕ). ReadsRecord p (page_over p page below) bits i (Ok (record { known = k; end = end }))) place h)

  -- a record at fault
  pub record_fails : (page : ℕ) (below : Known) (at : ℕ) (e : Fault) → at ≡ start_of offsets page → ReadsRecord p (page_over p page below) bits at (Err e)
      → RecordReads p bits offsets page below (Err (faults.Record e))
  record_fails page below at e place h = subst (λ (i : ℕ). ReadsRecord p (page_over p page below) bits i (Err e)) place h

  pub length_fault : (page : ℕ) (below : Known) (at end stop : ℕ) (k : Known) (f : ArchiveFault) → at ≡ start_of offsets page →
      ReadsRecord p (page_over p page below) bits at (Ok (record { known = k; end = end })) → stop ≡ end → stop ≢ start_of offsets (page + 1) →
      f ≡ faults.Length page (stop - start_of offsets page) (start_of offsets (page + 1) - start_of offsets page) → RecordReads p bits offsets page below (Err f)
  length_fault page below at end stop k f place h same differ is =
      let here = subst (λ (i : ℕ). ReadsRecord p (page_over p page below) bits i (Ok (record { known = k; end = end }))) place h in
      let w : Whole = record { known = k; end = stop } in
      let there : ReadsRecord p (page_over p page below) bits (start_of offsets page) (Ok w) =
      subst (λ (i : ℕ). ReadsRecord p (page_over p page below) bits (start_of offsets page) (Ok (record { known = k; end = i }))) (sym same) here in
      subst (λ (g : ArchiveFault). RecordReads p bits offsets page below (Err g)) (sym is) (w, there, differ, refl, refl, refl)

  -- ---- the chain grows

  pub one_page : (x : ℕ) (chain : List ℕ) → chain ≡ x ∷ [] → IsChain p bits offsets x chain
  one_page x chain is = subst (λ (l : List ℕ). IsChain p bits offsets x l) (sym is) (record {
    some = omega arith;
    first = refl;
    links = λ i lt. absurd (omega (arith, lt));
  })

before : (chain : List ℕ) (z i : ℕ) → i < length chain → get_or (chain ++ z ∷ []) i 0 ≡ get_or chain i 0
before chain z i lt = get_or_append_left chain (z ∷ []) 0 i lt

pub pushed_chain : (p : Parameters) (bits : List Bool) (offsets : List ℕ) (x : ℕ) (chain new : List ℕ) (page z : ℕ) → new ≡ chain ++ z ∷ []
    → get_or chain (length chain - 1) 0 ≡ page → RefersTo p bits offsets page z →
    IsChain p bits offsets x chain → IsChain p bits offsets x new
pushed_chain p bits offsets x chain new page z is here refers h = subst (λ (l : List ℕ). IsChain p bits offsets x l) (sym is) (record {
  some = omega (arith, pushed_length chain (chain ++ z ∷ []) z refl);
  first = before chain z 0 h.some ∙ h.first;
  links = λ i lt. elim (cases_lt (suc i) (length chain)) [
    | inl less ↦
        let one = subst (λ (k : ℕ). RefersTo p bits offsets (get_or chain i 0) k) (sym (before chain z (suc i) less)) (h.links i less) in
        subst (λ (k : ℕ). RefersTo p bits offsets k (get_or (chain ++ z ∷ []) (suc i) 0)) (sym (before chain z i (omega (arith, less)))) one
    | inr ge ↦
        let e : i ≡ length chain - 1 = omega (arith, lt, ge, pushed_length chain (chain ++ z ∷ []) z refl, h.some) in
        let first : get_or (chain ++ z ∷ []) i 0 ≡ page = before chain z i (omega (arith, e, h.some)) ∙ ap (λ (k : ℕ). get_or chain k 0) e ∙ here in
        let place : suc i ≡ length chain = omega (arith, e, h.some) in
        let next : get_or (chain ++ z ∷ []) (suc i) 0 ≡ z = ap (λ (k : ℕ). get_or (chain ++ z ∷ []) k 0) place ∙ last_pushed chain z in
        subst (λ (k : ℕ). RefersTo p bits offsets k (get_or (chain ++ z ∷ []) (suc i) 0)) (sym first) (subst (λ (k : ℕ). RefersTo p bits offsets page k) (sym next) refers)
  ];
})
  where
    last_pushed : (chain : List ℕ) (z : ℕ) → get_or (chain ++ z ∷ []) (length chain) 0 ≡ z
    last_pushed [] z = refl
    last_pushed (y ∷ ys) z = last_pushed ys z

pub pushed_here : (chain new : List ℕ) (z : ℕ) → new ≡ chain ++ z ∷ [] → get_or new (length new - 1) 0 ≡ z
pushed_here chain new z is =
    let place : length new - 1 ≡ length chain = omega (arith, pushed_length chain new z is) in
    ap (λ (k : ℕ). get_or new k 0) place ∙ ap (λ (l : List ℕ). get_or l (length chain) 0) is ∙ last_one chain z
  where
    last_one : (chain : List ℕ) (z : ℕ) → get_or (chain ++ z ∷ []) (length chain) 0 ≡ z
    last_one [] z = refl
    last_one (y ∷ ys) z = last_one ys z

-- ---- up the chain

-- what is left of a chain after the page i
pub after_page : (chain : List ℕ) (i : ℕ) → suc i < length chain → drop (suc i) chain ≡ get_or chain (suc i) 0 ∷ drop (suc (suc i)) chain
after_page chain i lt = drop-cons chain (suc i) 0 lt

-- a page up, over one that is known
module _ (p : Parameters) (bits : List Bool) (offsets : List ℕ) where
  pub up_one : (x : ℕ) (chain : List ℕ) (i : ℕ) (v w : Result Known ArchiveFault) → suc i < length chain → IsChain p bits offsets x chain →
      ChainReads p bits offsets (get_or chain (suc i) 0) (drop (suc (suc i)) chain) v → OverReads p bits offsets (get_or chain i 0) v w
      → ChainReads p bits offsets (get_or chain i 0) (drop (suc i) chain) w
  up_one x chain i v w lt h reads over =
      subst (λ (zs : List ℕ). ChainReads p bits offsets (get_or chain i 0) zs w) (sym (after_page chain i lt)) (h.links i lt, v, reads, over)

  -- the list of the page below, lent
  pub lent_reads : (page : ℕ) (lent list : List ℕ) (depth : ℕ) (w : Result Known ArchiveFault) → lent ≡ list → RecordReads p bits offsets page (record { list = lent; depth = depth }) w →
      RecordReads p bits offsets page (record { list = list; depth = depth }) w
  lent_reads page lent list depth w is h = subst (λ (l : List ℕ). RecordReads p bits offsets page (record { list = l; depth = depth }) w) is h

  -- a fault is the first page's
  pub carried : (x : ℕ) (chain : List ℕ) (i : ℕ) (f : ArchiveFault) → i < length chain → IsChain p bits offsets x chain →
      ChainReads p bits offsets (get_or chain i 0) (drop (suc i) chain) (Err f) → ChainReads p bits offsets (get_or chain 0 0) (drop 1 chain) (Err f)
  carried x chain zero f lt h reads = reads
  carried x chain (suc i) f lt h reads = carried x chain i f (omega (arith, lt)) h (up_one x chain i (Err f) (Err f) lt h reads refl)

none_after : (chain : List ℕ) → drop (suc (length chain - 1)) chain ≡ []
none_after chain = drop_of_length-le chain {i = suc (length chain - 1)} (omega arith)

-- the last page
module _ (p : Parameters) (bits : List Bool) (offsets : List ℕ) where
  pub last_reads : (chain : List ℕ) (w : Result Known ArchiveFault) → HeadReads p bits offsets (get_or chain (length chain - 1) 0) (Ok 0) →
      RecordReads p bits offsets (get_or chain (length chain - 1) 0) no_page w → ChainReads p bits offsets (get_or chain (length chain - 1) 0) (drop (suc (length chain - 1)) chain) w
  last_reads chain w head reads = subst (λ (zs : List ℕ). ChainReads p bits offsets (get_or chain (length chain - 1) 0) zs w) (sym (none_after chain)) (Ok 0, head, reads)

  last_fails : (chain : List ℕ) (e : Fault) → HeadReads p bits offsets (get_or chain (length chain - 1) 0) (Err e) →
      ChainReads p bits offsets (get_or chain (length chain - 1) 0) (drop (suc (length chain - 1)) chain) (Err (faults.Record e))
  last_fails chain e head = subst (λ (zs : List ℕ). ChainReads p bits offsets (get_or chain (length chain - 1) 0) zs (Err (faults.Record e))) (sym (none_after chain)) (Err e, head, refl)

  from_first : (x : ℕ) (chain : List ℕ) (w : Result Known ArchiveFault) → IsChain p bits offsets x chain → ChainReads p bits offsets (get_or chain 0 0) (drop 1 chain) w →
      ChainReads p bits offsets x (drop 1 chain) w
  from_first x chain w h reads = subst (λ (k : ℕ). ChainReads p bits offsets k (drop 1 chain) w) h.first reads

counted : (chain : List ℕ) (from to : ℕ) → 0 < length chain → to ≡ from + length chain → to ≡ from + length (drop 1 chain) + 1
counted chain from to some ticks = omega (arith, length-drop 1 chain)

-- the chain was not followed to its end
pub cut_short : (p : Parameters) (bits : List Bool) (offsets : List ℕ) (x : ℕ) (chain : List ℕ) (from to : ℕ) → IsChain p bits offsets x chain → to ≤ from + length chain
    → (chain : List ℕ) × IsChain p bits offsets x chain × (to ≤ from + length chain)
cut_short p bits offsets x chain from to h few = (chain, h, few)

-- the head of the last page is refused, or memory ran out, or a word was refused
pub head_error : {R : Type 0} (p : Parameters) (bits : List Bool) (offsets : List ℕ) (x : ℕ) (chain : List ℕ) (page from to : ℕ) (e : ReadError ArchiveFault R)
    → IsChain p bits offsets x chain → get_or chain (length chain - 1) 0 ≡ page → to ≡ from + length chain →
    OfFault e (IsHeadFault p bits offsets page) → ChainAnswers {R = R} p bits offsets x from to (Err e)
head_error p bits offsets x chain page from to (pages.Fault f) h here ticks bad =
    let at_end = last_fails p bits offsets chain bad.0 (subst (λ (k : ℕ). HeadReads p bits offsets k (Err bad.0)) (sym here) bad.2) in
    let all = carried p bits offsets x chain (length chain - 1) (faults.Record bad.0) (omega (arith, h.some)) h at_end in
    let first = from_first p bits offsets x chain (Err (faults.Record bad.0)) h all in
    (drop 1 chain, subst (λ (g : ArchiveFault). ChainReads p bits offsets x (drop 1 chain) (Err g)) (sym bad.1) first, counted chain from to h.some ticks)
head_error p bits offsets x chain page from to pages.Memory h here ticks bad = cut_short p bits offsets x chain from to h (omega (arith, ticks))
head_error p bits offsets x chain page from to (pages.Refused r) h here ticks bad = cut_short p bits offsets x chain from to h (omega (arith, ticks))

-- the answer, if all heads are right
pub answer_of : {R : Type 0} (p : Parameters) (bits : List Bool) (offsets : List ℕ) (x : ℕ) (chain lent : List ℕ) (from to : ℕ) (result : Result (List ℕ) (ReadError ArchiveFault R))
    → lent ≡ chain → IsChain p bits offsets x chain → to ≡ from + length chain →
    IfOk result (λ list. (k : Known) × ChainReads p bits offsets (get_or lent 0 0) (drop 1 lent) (Ok k) × (list ≡ k.list)) →
    OnFault result (λ f. ChainReads p bits offsets (get_or lent 0 0) (drop 1 lent) (Err f)) → ChainAnswers {R = R} p bits offsets x from to result
answer_of p bits offsets x chain lent from to (Ok list) is h ticks good bad =
    let reads = subst (λ (l : List ℕ). ChainReads p bits offsets (get_or l 0 0) (drop 1 l) (Ok good.0)) is good.1 in
    (drop 1 chain, good.0, from_first p bits offsets x chain (Ok good.0) h reads, good.2, counted chain from to h.some ticks)
answer_of p bits offsets x chain lent from to (Err (pages.Fault f)) is h ticks good bad =
    let fails = subst (λ (l : List ℕ). ChainReads p bits offsets (get_or l 0 0) (drop 1 l) (Err f)) is bad in
    (drop 1 chain, from_first p bits offsets x chain (Err f) h fails, counted chain from to h.some ticks)
answer_of p bits offsets x chain lent from to (Err pages.Memory) is h ticks good bad = cut_short p bits offsets x chain from to h (omega (arith, ticks))
answer_of p bits offsets x chain lent from to (Err (pages.Refused r)) is h ticks good bad = cut_short p bits offsets x chain from to h (omega (arith, ticks))
