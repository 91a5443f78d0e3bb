-- A page has one outcome by its chain.
use Rattle.std.proofs.Common.{◌≡◌, ◌∙◌, ◌⊎◌, ℕ, zero, suc, ◌+◌, ◌-◌, ◌<◌, Bool, cond, eqb, inl, inr, List, [], ◌∷◌, Result, Ok, Err, refl, sym, ap, subst, arith}
use Rattle.std.proofs.lemmas.Bool.{eq-eqb, ne_eqb}
use Rattle.wg_params.specs.Parameters.{Parameters, IsWithinLimits}
use Rattle.wg_grammar.specs.declared.fault.ArchiveFault.{ArchiveFault}
use Rattle.wg_grammar.specs.declared.fault.ArchiveFault.TheVariants as faults
use Rattle.wg_grammar.specs.declared.fault.Fault.{Fault}
use Rattle.wg_grammar.specs.declared.fault.Field.TheVariants as field
use Rattle.wg_grammar.specs.declared.need.Need.TheVariants as need
use Rattle.wg_grammar.specs.Context.{Known, Context, no_page}
use Rattle.wg_grammar.specs.Record.{Whole, ReadsRecord, Refused}
use Rattle.wg_grammar.specs.SoFar.{nothing_yet, after}
use Rattle.wg_grammar.proofs.Chain.{HasCode, next_coded}
use Rattle.wg_grammar.proofs.OneRecord.{stands_one, stands_or_refused, refused_one, record_one}
use Rattle.wg_decoder.specs.Apart.{of_outdegree, page_over, RefersNext, OutdegreeStands, ReferenceStands, HeadStands, ReferenceFails, HeadFails}
use Rattle.wg_decoder.proofs.HeadLemmas.{outdegree_due}
use Rattle.wg_decoder.specs.Chains.{endless, start_of, HeadReads, RecordReads, EndReads, OverReads, ChainReads}

-- ---- the head of a record, with these parameters and in this context

module _ (p : Parameters) (limits : IsWithinLimits p) (c : Context) (bits : List Bool) (at : ℕ) where
  pub outdegree_coded : HasCode (need.Read field.Outdegree p.outdegrees)
  outdegree_coded = subst HasCode (outdegree_due p c) (next_coded p c nothing_yet limits)

  pub reference_coded : (d : ℕ) → RefersNext p c d → HasCode (need.Read field.Reference p.references)
  reference_coded d due = subst HasCode due (next_coded p c (of_outdegree d) limits)

  outdegree_one : (d mid e end : ℕ) → OutdegreeStands p c bits at d mid → OutdegreeStands p c bits at e end → (d ≡ e) × (mid ≡ end)
  outdegree_one d mid e end h k =
      let x = stands_one (need.Read field.Outdegree p.outdegrees) outdegree_coded p c bits nothing_yet at d mid e end (of_outdegree d) (of_outdegree e) h k in
      (x.0, x.1)

  reference_one : (d mid r s end stop : ℕ) → ReferenceStands p c bits d mid r end → ReferenceStands p c bits d mid s stop → r ≡ s
  reference_one d mid r s end stop (inl h) (inl k) =
      (stands_one (need.Read field.Reference p.references) (reference_coded d h.0) p c bits (of_outdegree d) mid r end s stop (after p c (of_outdegree d) field.Reference r) (after p c (of_outdegree d) field.Reference s) h.1 k.1).0
  reference_one d mid r s end stop (inl h) (inr k) = absurd (k.0 h.0)
  reference_one d mid r s end stop (inr h) (inl k) = absurd (h.0 k.0)
  reference_one d mid r s end stop (inr h) (inr k) = h.1 ∙ sym k.1

  pub right_one : (d e r s end stop : ℕ) → HeadStands p c bits at d r end → HeadStands p c bits at e s stop → r ≡ s
  right_one d e r s end stop h k =
      let one = outdegree_one d h.0 e k.0 h.1 k.1 in
      let there = subst (λ (n : ℕ). ReferenceStands p c bits d n s stop) (sym one.1) (subst (λ (n : ℕ). ReferenceStands p c bits n k.0 s stop) (sym one.0) k.2) in
      reference_one d h.0 r s end stop h.2 there

  reference_or_fault : (d mid r end : ℕ) (e : Fault) → ReferenceStands p c bits d mid r end → ReferenceFails p c bits at d mid e → ⊥
  reference_or_fault d mid r end e (inl h) k =
      stands_or_refused (need.Read field.Reference p.references) (reference_coded d h.0) p c bits (of_outdegree d) at mid r end (after p c (of_outdegree d) field.Reference r) e h.1 k.1
  reference_or_fault d mid r end e (inr h) k = h.0 k.0

  abbrev Fails : Fault → Type 0
  Fails e = Refused (need.Read field.Outdegree p.outdegrees) p c bits at nothing_yet at e ⊎ ((d : ℕ) × (mid : ℕ) × OutdegreeStands p c bits at d mid × ReferenceFails p c bits at d mid e)

  right_or_fails : (d r end : ℕ) (e : Fault) → HeadStands p c bits at d r end → Fails e → ⊥
  right_or_fails d r end e h (inl k) = stands_or_refused (need.Read field.Outdegree p.outdegrees) outdegree_coded p c bits nothing_yet at at d h.0 (of_outdegree d) e h.1 k
  right_or_fails d r end e h (inr k) =
      let one = outdegree_one d h.0 k.0 k.1 h.1 k.2 in
      let there = subst (λ (n : ℕ). ReferenceFails p c bits at d n e) (sym one.1) (subst (λ (n : ℕ). ReferenceFails p c bits at n k.1 e) (sym one.0) k.3) in
      reference_or_fault d h.0 r end e h.2 there

  pub right_or_fault : (d r end : ℕ) (e : Fault) → HeadStands p c bits at d r end → HeadFails p c bits at e → ⊥
  right_or_fault d r end e h k = right_or_fails d r end e h k.0

  fails_one : (e f : Fault) → e.page ≡ f.page → Fails e → Fails f → e ≡ f
  fails_one e f page (inl h) (inl k) = refused_one (need.Read field.Outdegree p.outdegrees) outdegree_coded p c bits nothing_yet at at e f h k page
  fails_one e f page (inl h) (inr k) =
      absurd (stands_or_refused (need.Read field.Outdegree p.outdegrees) outdegree_coded p c bits nothing_yet at at k.0 k.1 (of_outdegree k.0) e k.2 h)
  fails_one e f page (inr h) (inl k) =
      absurd (stands_or_refused (need.Read field.Outdegree p.outdegrees) outdegree_coded p c bits nothing_yet at at h.0 h.1 (of_outdegree h.0) f h.2 k)
  fails_one e f page (inr h) (inr k) =
      let one = outdegree_one h.0 h.1 k.0 k.1 h.2 k.2 in
      let there = subst (λ (n : ℕ). ReferenceFails p c bits at h.0 n f) (sym one.1) (subst (λ (n : ℕ). ReferenceFails p c bits at n k.1 f) (sym one.0) k.3) in
      refused_one (need.Read field.Reference p.references) (reference_coded h.0 h.3.0) p c bits (of_outdegree h.0) at h.1 e f h.3.1 there.1 page

  pub fault_one : (e f : Fault) → HeadFails p c bits at e → HeadFails p c bits at f → e ≡ f
  fault_one e f h k = fails_one e f (h.1 ∙ sym k.1) h.0 k.0

pub endless_limits : (p : Parameters) → IsWithinLimits p → IsWithinLimits (endless p)
endless_limits p h = record {
  nodes = h.nodes;
  arcs = h.arcs;
  window = h.window;
  chain = omega arith;
  interval = h.interval;
  some_zeta = h.some_zeta;
  zeta = h.zeta;
  outdegrees = h.outdegrees;
  references = h.references;
  block_counts = h.block_counts;
  blocks = h.blocks;
  residuals = h.residuals;
  offsets = h.offsets;
}

module _ (p : Parameters) (limits : IsWithinLimits p) (bits : List Bool) (offsets : List ℕ) where
  head_one : (page : ℕ) (v w : Result ℕ Fault) → HeadReads p bits offsets page v → HeadReads p bits offsets page w → v ≡ w
  head_one page (Ok r) (Ok s) h k =
      ap (λ (n : ℕ). let x : Result ℕ Fault = Ok n in x) (right_one (endless p) (endless_limits p limits) (page_over p page no_page) bits (start_of offsets page) h.0 k.0 r s h.1 k.1 h.2 k.2)
  head_one page (Ok r) (Err e) h k = absurd (right_or_fault (endless p) (endless_limits p limits) (page_over p page no_page) bits (start_of offsets page) h.0 r h.1 e h.2 k)
  head_one page (Err e) (Ok r) h k = absurd (right_or_fault (endless p) (endless_limits p limits) (page_over p page no_page) bits (start_of offsets page) k.0 r k.1 e k.2 h)
  head_one page (Err e) (Err f) h k =
      ap (λ (n : Fault). let x : Result ℕ Fault = Err n in x) (fault_one (endless p) (endless_limits p limits) (page_over p page no_page) bits (start_of offsets page) e f h k)

  -- what a record is, by where it ends
  abbrev outcome : ℕ → Result Whole Fault → Result Known ArchiveFault
  outcome page (Ok w) =
      cond (eqb w.end (start_of offsets (page + 1))) (Ok w.known) (Err (faults.Length page (w.end - start_of offsets page) (start_of offsets (page + 1) - start_of offsets page)))
  outcome page (Err e) = Err (faults.Record e)

  abbrev Outcome : ℕ → Known → Result Known ArchiveFault → Type 0
  Outcome page below v = (u : Result Whole Fault) × ReadsRecord p (page_over p page below) bits (start_of offsets page) u × (v ≡ outcome page u)

  as_outcome : (page : ℕ) (below : Known) (v : Result Known ArchiveFault) → RecordReads p bits offsets page below v → Outcome page below v
  as_outcome page below (Ok k) h =
      let next = start_of offsets (page + 1) in
      (Ok (record { known = k; end = next }), h, (let e : Ok k ≡ outcome page (Ok (record { known = k; end = next })) = rw (eq-eqb next next refl) refl in e))
  as_outcome page below (Err (faults.Record e)) h = (Err e, h, refl)
  as_outcome page below (Err (faults.Length at found stored)) h =
      let e : Err (faults.Length at found stored) ≡ outcome page (Ok h.0) = rw (ne_eqb h.0.end (start_of offsets (page + 1)) h.2, h.3, h.4, h.5) refl in
      (Ok h.0, h.1, e)
  as_outcome page below (Err (faults.Tail at)) h = absurd h
  as_outcome page below (Err (faults.ArcsShort total)) h = absurd h
  as_outcome page below (Err (faults.Offsets word)) h = absurd h

  record_reads_one : (page : ℕ) (below : Known) (v w : Result Known ArchiveFault) → RecordReads p bits offsets page below v → RecordReads p bits offsets page below w → v ≡ w
  record_reads_one page below v w h k =
      let x = as_outcome page below v h in
      let y = as_outcome page below w k in
      x.2 ∙ ap (outcome page) (record_one p limits (page_over p page below) bits (start_of offsets page) x.0 y.0 x.1 y.1) ∙ sym y.2

  end_one : (y : ℕ) (h : Result ℕ Fault) (v w : Result Known ArchiveFault) → EndReads p bits offsets y h v → EndReads p bits offsets y h w → v ≡ w
  end_one y (Ok zero) v w a b = record_reads_one y no_page v w a b
  end_one y (Ok (suc r)) v w a b = absurd a
  end_one y (Err e) v w a b = a ∙ sym b

  over_one : (y : ℕ) (u v w : Result Known ArchiveFault) → OverReads p bits offsets y u v → OverReads p bits offsets y u w → v ≡ w
  over_one y (Ok below) v w a b = record_reads_one y below v w a b
  over_one y (Err f) v w a b = a ∙ sym b

  no_end : (y r : ℕ) (w : Result Known ArchiveFault) → 0 < r → EndReads p bits offsets y (Ok r) w → ⊥
  no_end y zero w some a = omega (arith, some)
  no_end y (suc r) w some a = a

  goes_or_ends : (y r : ℕ) (h : Result ℕ Fault) (w : Result Known ArchiveFault) → 0 < r → HeadReads p bits offsets y (Ok r) → HeadReads p bits offsets y h → EndReads p bits offsets y h w → ⊥
  goes_or_ends y r h w some head end a = no_end y r w some (subst (λ (x : Result ℕ Fault). EndReads p bits offsets y x w) (head_one y h (Ok r) end head) a)

  pub same_reference : (y r s : ℕ) → HeadReads p bits offsets y (Ok r) → HeadReads p bits offsets y (Ok s) → r ≡ s
  same_reference y r s h k = ok_is r s (head_one y (Ok r) (Ok s) h k)
    where
      ok_is : (r s : ℕ) → (let x : Result ℕ Fault = Ok r in x) ≡ Ok s → r ≡ s
      ok_is r s e = cc

  pub chain_one : (y : ℕ) (zs ys : List ℕ) (v w : Result Known ArchiveFault) → ChainReads p bits offsets y zs v → ChainReads p bits offsets y ys w → v ≡ w
  chain_one y [] [] v w h k =
      end_one y h.0 v w h.2 (subst (λ (x : Result ℕ Fault). EndReads p bits offsets y x w) (head_one y k.0 h.0 k.1 h.1) k.2)
  chain_one y [] (z ∷ zs) v w h k = absurd (goes_or_ends y k.0.0 h.0 v k.0.1 k.0.2 h.1 h.2)
  chain_one y (z ∷ zs) [] v w h k = absurd (goes_or_ends y h.0.0 k.0 w h.0.1 h.0.2 k.1 k.2)
  chain_one y (z ∷ zs) (x ∷ xs) v w h k =
      let r : h.0.0 ≡ k.0.0 = same_reference y h.0.0 k.0.0 h.0.2 k.0.2 in
      let same : z ≡ x = h.0.3 ∙ ap (λ (n : ℕ). y - n) r ∙ sym k.0.3 in
      let below : h.1 ≡ k.1 = chain_one z zs xs h.1 k.1 h.2 (subst (λ (n : ℕ). ChainReads p bits offsets n xs k.1) (sym same) k.2) in
      over_one y h.1 v w h.3 (subst (λ (u : Result Known ArchiveFault). OverReads p bits offsets y u w) (sym below) k.3)
