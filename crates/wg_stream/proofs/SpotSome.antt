-- A page has an outcome by its chain.
use Rattle.std.proofs.Common.{◌≡◌, ℕ, zero, suc, ◌+◌, ◌-◌, ◌<◌, ◌≤◌, Bool, inl, inr, List, [], ◌∷◌, length, drop, Option, Some, None, Result, Ok, Err, refl, subst, length-drop, arith}
use Rattle.std.proofs.lemmas.Bool.{cases_lt, cases_eq}
use Rattle.wg_params.specs.Parameters.{Parameters, IsWithinLimits}
use Rattle.wg_codes.specs.Reading.{Reads}
use Rattle.wg_codes.specs.Words.{word, top}
use Rattle.wg_codes.specs.declared.outcome.Read.{Read}
use Rattle.wg_codes.specs.declared.outcome.Read.TheVariants as reads
use Rattle.wg_codes.proofs.CodeLaws.{some_result, value_front, word_some}
use Rattle.wg_grammar.specs.declared.fault.ArchiveFault.{ArchiveFault}
use Rattle.wg_grammar.specs.declared.fault.ArchiveFault.TheVariants as faults
use Rattle.wg_grammar.specs.declared.fault.Fault.{Fault}
use Rattle.wg_grammar.specs.declared.fault.Field.{Field}
use Rattle.wg_grammar.specs.declared.fault.Field.TheVariants as field
use Rattle.wg_grammar.specs.declared.fault.Kind.{Kind}
use Rattle.wg_grammar.specs.declared.fault.Kind.TheVariants as kind
use Rattle.wg_grammar.specs.Context.{Known, Context, no_page}
use Rattle.wg_grammar.specs.Record.{Whole, ReadsRecord}
use Rattle.wg_grammar.specs.Refusal.{refusal, judged}
use Rattle.wg_grammar.specs.SoFar.{nothing_yet, after}
use Rattle.wg_grammar.proofs.SomeRecord.{record_some}
use Rattle.wg_decoder.specs.Apart.{of_outdegree, page_over, RefersNext, OutdegreeStands, ReferenceStands, HeadStands, HeadFails}
use Rattle.wg_decoder.proofs.HeadLemmas.{reference_due, no_reference_stands, reference_near}
use Rattle.wg_decoder.specs.Chains.{endless, start_of, HeadReads, RecordReads, RefersTo, OverReads, SpotReads}
use Rattle.wg_stream.proofs.SpotOne.{outdegree_coded, reference_coded, endless_limits}

-- ---- a reference leads to a lower page

near_of : (p : Parameters) (c : Context) (bits : List Bool) (d at r end : ℕ) → 0 < r → ReferenceStands p c bits d at r end → r ≤ c.page
near_of p c bits d at r end some (inl h) = omega (arith, reference_near p c (of_outdegree d) r h.1.2)
near_of p c bits d at r end some (inr h) = absurd (omega (arith, some, h.1))

pub refers_falls : (p : Parameters) (bits : List Bool) (offsets : List ℕ) (y z : ℕ) → RefersTo p bits offsets y z → z < y
refers_falls p bits offsets y z h =
    let s = h.2.2 in
    let near : h.0 ≤ y = near_of (endless p) (page_over p y no_page) bits h.2.0 s.0 h.0 h.2.1 h.1 s.2 in
    omega (arith, h.1, near, h.3)

-- ---- the head of a record, with these parameters and in this context

module _ (p : Parameters) (limits : IsWithinLimits p) (c : Context) (bits : List Bool) (at : ℕ) where
  abbrev IsHeadOf : Result ℕ Fault → Type 0
  IsHeadOf (Ok r) = (d : ℕ) × (end : ℕ) × HeadStands p c bits at d r end
  IsHeadOf (Err e) = HeadFails p c bits at e

  abbrev SomeHead : Type 0
  SomeHead = (h : Result ℕ Fault) × IsHeadOf h

  fault : ℕ → Field → Kind → Fault
  fault place f k = record { page = c.page; at = place; field = f; kind = k }

  no_outdegree : (k : Kind) (r : Read) → Reads (word p.outdegrees) (top p.outdegrees) (drop at bits) r → judged p c nothing_yet field.Outdegree r ≡ Some k → SomeHead
  unfolding fault
  no_outdegree k r found why = (Err (fault at field.Outdegree k), (inl (r, found, why, refl, refl), refl))

  no_reference : (d mid : ℕ) → OutdegreeStands p c bits at d mid → RefersNext p c d → (k : Kind) (r : Read) → Reads (word p.references) (top p.references) (drop mid bits) r
      → judged p c (of_outdegree d) field.Reference r ≡ Some k → SomeHead
  unfolding fault
  no_reference d mid out due k r found why = (Err (fault mid field.Reference k), (inr (d, mid, out, (due, (r, found, why, refl, refl))), refl))

  reference_judged : (d mid : ℕ) → OutdegreeStands p c bits at d mid → RefersNext p c d → (r : ℕ) → Reads (word p.references) (top p.references) (drop mid bits) (reads.Value r) → (o : Option Kind)
      → refusal p c (of_outdegree d) field.Reference r ≡ o → SomeHead
  reference_judged d mid out due r found None fine = (Ok r, (d, mid + length (word p.references r), (mid, out, inl (due, (found, refl, fine, refl)))))
  reference_judged d mid out due r found (Some k) bad = no_reference d mid out due k (reads.Value r) found bad

  reference_case : (d mid : ℕ) → OutdegreeStands p c bits at d mid → RefersNext p c d → (r : Read) → Reads (word p.references) (top p.references) (drop mid bits) r → SomeHead
  reference_case d mid out due (reads.Value r) found = reference_judged d mid out due r found (refusal p c (of_outdegree d) field.Reference r) refl
  reference_case d mid out due reads.Cut found = no_reference d mid out due kind.Cut reads.Cut found refl
  reference_case d mid out due reads.NoWord found = no_reference d mid out due kind.NoWord reads.NoWord found refl

  after_outdegree : (d mid : ℕ) → OutdegreeStands p c bits at d mid → SomeHead
  after_outdegree d mid out =
      elim (cases_lt 0 d) [
        | inl some ↦ elim (cases_lt 0 p.window) [
          | inl window ↦
              let due = reference_due p c d some window in
              let r = some_result p.references (reference_coded p limits c bits at d due) (drop mid bits) in
              reference_case d mid out due r.0 r.1
          | inr none ↦ (Ok 0, (d, mid, (mid, out, no_reference_stands p c bits d mid (inr (let e : p.window ≡ 0 = omega (arith, none) in e)))))
        ]
        | inr none ↦ (Ok 0, (d, mid, (mid, out, no_reference_stands p c bits d mid (inl (let e : d ≡ 0 = omega (arith, none) in e)))))
      ]

  out_is : (d : ℕ) → of_outdegree d ≡ after p c nothing_yet field.Outdegree d
  unfolding after
  out_is d = refl

  outdegree_judged : (d : ℕ) → Reads (word p.outdegrees) (top p.outdegrees) (drop at bits) (reads.Value d) → (o : Option Kind) → refusal p c nothing_yet field.Outdegree d ≡ o → SomeHead
  outdegree_judged d found None fine = after_outdegree d (at + length (word p.outdegrees d)) (found, refl, fine, out_is d)
  outdegree_judged d found (Some k) bad = no_outdegree k (reads.Value d) found bad

  outdegree_case : (r : Read) → Reads (word p.outdegrees) (top p.outdegrees) (drop at bits) r → SomeHead
  outdegree_case (reads.Value d) found = outdegree_judged d found (refusal p c nothing_yet field.Outdegree d) refl
  outdegree_case reads.Cut found = no_outdegree kind.Cut reads.Cut found refl
  outdegree_case reads.NoWord found = no_outdegree kind.NoWord reads.NoWord found refl

  pub some_head : SomeHead
  some_head = let r = some_result p.outdegrees (outdegree_coded p limits c bits at) (drop at bits) in outdegree_case r.0 r.1

-- ---- pages

module _ (p : Parameters) (limits : IsWithinLimits p) (bits : List Bool) (offsets : List ℕ) where
  abbrev Page : ℕ → Type 0
  Page x = (w : Result Known ArchiveFault) × SpotReads p bits offsets x w

  head_of : (x : ℕ) (h : Result ℕ Fault) → IsHeadOf (endless p) (endless_limits p limits) (page_over p x no_page) bits (start_of offsets x) h → HeadReads p bits offsets x h
  head_of x (Ok r) h = h
  head_of x (Err e) h = h

  head_some : (x : ℕ) → (h : Result ℕ Fault) × HeadReads p bits offsets x h
  head_some x = let h = some_head (endless p) (endless_limits p limits) (page_over p x no_page) bits (start_of offsets x) in (h.0, head_of x h.0 h.1)

  -- a record with a right head begins before the end
  begins : (x r : ℕ) → HeadReads p bits offsets x (Ok r) → start_of offsets x ≤ length bits
  begins x r h =
      let code = p.outdegrees in
      let at = start_of offsets x in
      let found : Reads (word code) (top code) (drop at bits) (reads.Value h.0) = h.2.1.0 in
      omega (arith, (value_front code (drop at bits) h.0 found).0, word_some code h.0, length-drop at bits)

  of_record : (x : ℕ) (below : Known) (u : Result Whole Fault) → ReadsRecord p (page_over p x below) bits (start_of offsets x) u → (w : Result Known ArchiveFault) × RecordReads p bits offsets x below w
  of_record x below (Err e) h = (Err (faults.Record e), h)
  of_record x below (Ok w) h =
      elim (cases_eq w.end (start_of offsets (x + 1))) [
        | inl same ↦ (Ok w.known, subst (λ (n : ℕ). ReadsRecord p (page_over p x below) bits (start_of offsets x) (Ok (record { known = w.known; end = n }))) same h)
        | inr other ↦ (Err (faults.Length x (w.end - start_of offsets x) (start_of offsets (x + 1) - start_of offsets x)), (w, h, other, refl, refl, refl))
      ]

  record_reads_some : (x : ℕ) (below : Known) → start_of offsets x ≤ length bits → (w : Result Known ArchiveFault) × RecordReads p bits offsets x below w
  record_reads_some x below fits = let u = record_some p limits (page_over p x below) bits (start_of offsets x) fits in of_record x below u.0 u.1

  over_some : (x : ℕ) (v : Result Known ArchiveFault) → start_of offsets x ≤ length bits → (w : Result Known ArchiveFault) × OverReads p bits offsets x v w
  over_some x (Ok below) fits = record_reads_some x below fits
  over_some x (Err f) fits = (Err f, refl)

  page_on : (x : ℕ) (h : Result ℕ Fault) → HeadReads p bits offsets x h → ((y : ℕ) → y < x → Page y) → Page x
  page_on x (Err e) head lower = (Err (faults.Record e), ([], (Err e, head, refl)))
  page_on x (Ok zero) head lower =
      let w = record_reads_some x no_page (begins x 0 head) in
      (w.0, ([], (Ok 0, head, w.1)))
  page_on x (Ok (suc r)) head lower =
      let y = x - suc r in
      let some : 0 < suc r = omega arith in
      let falls = refers_falls p bits offsets x y (suc r, some, head, refl) in
      let v = lower y falls in
      let w = over_some x v.0 (begins x (suc r) head) in
      (w.0, (y ∷ v.1.0, ((suc r, some, head, refl), v.0, v.1.1, w.1)))

  up_to : (n x : ℕ) → x < n → Page x
  up_to zero x lt = absurd (omega (arith, lt))
  up_to (suc n) x lt = let h = head_some x in page_on x h.0 h.1 (λ y less. up_to n y (omega (arith, lt, less)))

  pub page_some : (x : ℕ) → Page x
  page_some x = up_to (suc x) x (omega arith)
