-- A record that was read among the others is the same on its own, over the page that it refers to.
use Rattle.std.proofs.Common.{◌≡◌, ◌⊎◌, ◌∙◌, ℕ, zero, suc, ◌+◌, ◌<◌, ◌≤◌, min, Bool, true, false, cond, ltb, ◌||◌, inl, inr, List, [], ◌∷◌, length, replicate, Option, Some, None, Ok, refl, sym, ap, subst, arith}
use Rattle.std.proofs.lemmas.Bool.{le-ltb, cases_lt, cases_eq}
use Rattle.std.proofs.lemmas.List.{get_or-replicate}
use Rattle.std.specs.Prelude.{get_or}
use Rattle.wg_params.specs.Parameters.{Parameters}
use Rattle.wg_graph.specs.Copied.{copied_members}
use Rattle.wg_graph.specs.Numbers.{is_in, numbers_where}
use Rattle.wg_grammar.specs.declared.fault.Field.{Field}
use Rattle.wg_grammar.specs.declared.fault.Field.TheVariants as field
use Rattle.wg_grammar.specs.declared.fault.Kind.{Kind}
use Rattle.wg_grammar.specs.declared.fault.Kind.TheVariants as kind
use Rattle.wg_grammar.specs.declared.need.Need.{Need}
use Rattle.wg_grammar.specs.declared.need.Need.TheVariants as need
use Rattle.wg_grammar.specs.Context.{Known, Context, no_page, referenced, depth_of}
use Rattle.wg_grammar.specs.SoFar.{SoFar, nothing_yet, after, value_or_0, source}
use Rattle.wg_grammar.specs.Next.{next}
use Rattle.wg_grammar.specs.Refusal.{refusal, passes}
use Rattle.wg_grammar.specs.Members.{list_of, is_covered}
use Rattle.wg_grammar.specs.Record.{Whole, Stands, Fields, ReadsRecord}
use Rattle.wg_decoder.specs.Apart.{of_outdegree, page_over, OutdegreeStands, HeadStands}
use Rattle.wg_decoder.specs.Stages.Leading.{LeadsTo}
use Rattle.wg_decoder.proofs.ProperLemmas.Going.{step_of, stop_of}
use Rattle.wg_decoder.proofs.WholeLemmas.{empty_due}
use Rattle.wg_decoder.proofs.HeadLemmas.{outdegree_due, reference_due, no_reference_stands}
use Rattle.wg_decoder.proofs.ProperLemmas.Transfer.{fields_keep, fields_near, same_refusal, same_next, same_list, fields_same}
use Rattle.wg_decoder.specs.Chains.{endless}

-- ---- the same fields, over the page below

-- in the two contexts a reference that goes so far back names the same list, at the same depth
record Same (p : Parameters) (c : Context) (k : Known) (r : ℕ) : Type 0 where
  list : referenced c.behind r ≡ referenced (replicate p.window k) r
  depth : depth_of c.behind r ≡ depth_of (replicate p.window k) r

-- the page that a reference names
unfoldable pub named_page : Context → ℕ → Known
named_page c zero = no_page
named_page c (suc r) = get_or c.behind r no_page

names_same : (p : Parameters) (c : Context) (r : ℕ) → r ≤ p.window → Same p c (named_page c r) r
unfolding named_page
names_same p c zero near = record { list = refl; depth = refl }
names_same p c (suc r) near =
    let e : get_or (replicate p.window (get_or c.behind r no_page)) r no_page ≡ get_or c.behind r no_page = get_or-replicate p.window r (get_or c.behind r no_page) no_page (omega (arith, near)) in
    record { list = sym (ap (λ (k : Known). k.list) e); depth = sym (ap (λ (k : Known). suc k.depth) e) }

-- how far back the record refers, the same record on its own, and its head
pub record Apart (p : Parameters) (c : Context) (bits : List Bool) (at : ℕ) (w : Whole) : Type 0 where
  pub r : ℕ
  pub near : r ≤ min p.window c.page
  pub depth : w.known.depth ≡ depth_of c.behind r
  pub reads : ReadsRecord p (page_over p c.page (named_page c r)) bits at (Ok w)
  pub head : (d : ℕ) × (end : ℕ) × HeadStands (endless p) (page_over p c.page no_page) bits at d r end

-- ---- the head

abbrev Head : Parameters → Context → List Bool → ℕ → ℕ → Type 0
Head p c bits at r = (d : ℕ) × (end : ℕ) × HeadStands (endless p) (page_over p c.page no_page) bits at d r end

out_stands : (p : Parameters) (c : Context) (bits : List Bool) (at d mid : ℕ) → OutdegreeStands p c bits at d mid → OutdegreeStands (endless p) (page_over p c.page no_page) bits at d mid
unfolding after
out_stands p c bits at d mid h =
    (h.0, h.1, same_refusal p c None p.arcs (replicate p.window no_page) (λ v few total. omega (arith, total)) nothing_yet field.Outdegree d refl (λ is. absurd cc) h.2, h.3)

reference_fine : (p : Parameters) (c : Context) (d r : ℕ) → r ≤ min p.window c.page → refusal (endless p) (page_over p c.page no_page) (of_outdegree d) field.Reference r ≡ None
unfolding refusal
reference_fine p c d r near = rw (le-ltb (min p.window c.page) r near) refl

kept : (v : ℕ) (o p : Option ℕ) → o ≡ Some v → (o ≡ None) ⊎ (o ≡ p) → v ≡ value_or_0 p
kept v o p is (inl none) = absurd (let bad : Some v ≡ None = sym is ∙ none in cc)
kept v o p is (inr same) = ap value_or_0 (sym is ∙ same)

head_of : (p : Parameters) (c : Context) (bits : List Bool) (at : ℕ) (t : SoFar) (end : ℕ) → next p c t ≡ need.End → value_or_0 t.reference ≤ min p.window c.page → LeadsTo p c bits nothing_yet at t end → Head p c bits at (value_or_0 t.reference)
unfolding after
head_of p c bits at t end ends near on =
    let f = step_of p c bits nothing_yet at field.Outdegree p.outdegrees t end (outdegree_due p c) ends on in
    let q = endless p in
    let here = page_over p c.page no_page in
    let out : OutdegreeStands q here bits at f.v f.mid = out_stands p c bits at f.v f.mid f.whole in
    let none : (f.v ≡ 0) ⊎ (p.window ≡ 0) → value_or_0 t.reference ≡ 0 → Head p c bits at (value_or_0 t.reference) =
    λ why is. (f.v, f.mid, subst (λ (n : ℕ). HeadStands q here bits at f.v n f.mid) (sym is) (f.mid, out, no_reference_stands q here bits f.v f.mid why)) in
    elim (cases_eq f.v 0) [
      | inl empty ↦ none (inl empty) (ap (λ (s : SoFar). value_or_0 s.reference) (stop_of p c bits (of_outdegree f.v) f.mid t end (empty_due p c f.v empty) f.on))
      | inr some ↦ elim (cases_lt 0 p.window) [
        | inr no_window ↦ none (inr (omega (arith, no_window))) (omega (arith, near, no_window))
        | inl window ↦
            let above : 0 < f.v = omega (arith, some) in
            let g = step_of p c bits (of_outdegree f.v) f.mid field.Reference p.references t end (reference_due p c f.v above window) ends f.on in
            let same : g.v ≡ value_or_0 t.reference = kept g.v (Some g.v) t.reference refl (fields_keep p c bits (after p c (of_outdegree f.v) field.Reference g.v) g.mid g.on.0 t end g.on.1) in
            let all : HeadStands q here bits at f.v g.v g.mid =
            (f.mid, out, inl (reference_due q here f.v above window, (g.whole.0, g.whole.1, reference_fine p c f.v g.v (omega (arith, same, near)), refl))) in
            (f.v, g.mid, subst (λ (n : ℕ). HeadStands q here bits at f.v n g.mid) same all)
      ]
    ]

pub apart_of : (p : Parameters) (c : Context) (bits : List Bool) (at : ℕ) (w : Whole) → ReadsRecord p c bits at (Ok w) → Apart p c bits at w
apart_of p c bits at w h =
    let t : SoFar = h.1 in
    let r : ℕ = value_or_0 t.reference in
    let near : r ≤ min p.window c.page = fields_near p c bits nothing_yet at h.0 t h.2 h.3 (omega arith) in
    let k = named_page c r in
    let same = names_same p c r (omega (arith, near)) in
    let others = replicate p.window k in
    let e : source c t ≡ source (page_over p c.page k) t = same.list in
    let all = same_list p c p.chain p.arcs others t e in
    record {
      r = r;
      near = near;
      depth = h.4.3;
      reads = (
        h.0,
        t,
        h.2,
        fields_same p c p.chain p.arcs others (λ v few total. omega (arith, total)) r bits nothing_yet at h.0 t h.2 (subst (λ (n : ℕ). passes p.chain n ≡ false) same.depth) refl e h.3,
        (sym (same_next p c p.chain p.arcs others t e) ∙ h.4.0, ap (λ (l : List ℕ). length l) (sym all) ∙ h.4.1, h.4.2 ∙ all, h.4.3 ∙ same.depth, h.4.4),
      );
      head = head_of p c bits at t h.2 h.4.0 near (h.0, h.3);
    }
