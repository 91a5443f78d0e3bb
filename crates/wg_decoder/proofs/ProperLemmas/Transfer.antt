-- A record that was read among the others is one that an iterator can stand on.
use Rattle.std.proofs.Common.{◌≡◌, ◌⊎◌, ℕ, zero, suc, ◌+◌, ◌≤◌, min, Bool, false, ◌||◌, ltb, inl, inr, List, [], ◌∷◌, length, Option, Some, None, Ok, refl, sym, ap, subst, ◌∙◌, arith}
use Rattle.std.specs.Prelude.{is_some}
use Rattle.std.proofs.lemmas.Bool.{lt-ltb, le-ltb, ltb-false}
use Rattle.std.proofs.lemmas.List.{get_or-replicate}
use Rattle.wg_params.specs.Parameters.{Parameters}
use Rattle.wg_grammar.specs.declared.fault.Field.{Field}
use Rattle.wg_grammar.specs.declared.fault.Field.TheVariants as field
use Rattle.wg_grammar.specs.declared.fault.Kind.TheVariants as kind
use Rattle.wg_grammar.specs.declared.need.Need.{Need}
use Rattle.wg_grammar.specs.declared.need.Need.TheVariants as need
use Rattle.wg_grammar.specs.Context.{Known, Context, no_page, referenced, depth_of}
use Rattle.wg_grammar.specs.SoFar.{SoFar, nothing_yet, after, value_or_0, source}
use Rattle.wg_grammar.specs.Next.{next}
use Rattle.wg_grammar.specs.Refusal.{refusal, passes}
use Rattle.wg_grammar.specs.Members.{list_of, is_covered}
use Rattle.wg_grammar.specs.Record.{Whole, Stands, Fields, ReadsRecord}
use Rattle.wg_grammar.specs.Tally.{tally}
use Rattle.wg_grammar.proofs.Along.{not_first, read_or_kept, read_reference, kept_along}
use Rattle.wg_grammar.proofs.Chain.{field_of, tests}
use Rattle.wg_grammar.proofs.Orderly.{next_tested}
use Rattle.wg_grammar.proofs.Tallies.{due_of}
use Rattle.wg_graph.specs.Numbers.{is_in, numbers_where}
use Rattle.wg_graph.specs.Copied.{copied_members}
use Rattle.wg_decoder.specs.Answer.{context_at}
use Rattle.wg_decoder.proofs.HeadLemmas.{reference_near}
use Rattle.wg_decoder.specs.Proper.{behind_of, IsRecord}

-- ---- the reference is read once, and is near

abbrev pub Keeps : SoFar → SoFar → Type 0
Keeps s t = (s.reference ≡ None) ⊎ (s.reference ≡ t.reference)

keeps_after : (p : Parameters) (c : Context) (s u : SoFar) (f : Field) (v : ℕ) → field_of (next p c u) ≡ f → Keeps s u → Keeps s (after p c u f v)
keeps_after p c s u f v is (inl none) = inl none
keeps_after p c s u f v is (inr same) =
    elim (read_or_kept p c u f v) [
      | inl kept ↦ inr (same ∙ sym kept)
      | inr e ↦ inl (same ∙ due_of (tally p c u) field.Reference (subst (tests (tally p c u)) (is ∙ e) (next_tested p c u)))
    ]

pub fields_keep : (p : Parameters) (c : Context) (bits : List Bool) (s : SoFar) (at : ℕ) (vs : List ℕ) (t : SoFar) (end : ℕ) → Fields p c bits s at vs t end → Keeps s t
fields_keep p c bits s at vs t end h = kept_along p c bits (Keeps s) (λ u f v is fine x. keeps_after p c s u f v is x) s at vs t end h (inr refl)

after_near : (p : Parameters) (c : Context) (s : SoFar) (f : Field) (v : ℕ) → refusal p c s f v ≡ None → value_or_0 s.reference ≤ min p.window c.page → value_or_0 (after p c s f v).reference ≤ min p.window c.page
after_near p c s f v fine near =
    elim (read_or_kept p c s f v) [
      | inl kept ↦ omega (arith, near, ap value_or_0 kept)
      | inr e ↦ omega (arith, ap value_or_0 (read_reference p c s f v e), reference_near p c s v (subst (λ (g : Field). refusal p c s g v ≡ None) e fine))
    ]

pub fields_near : (p : Parameters) (c : Context) (bits : List Bool) (s : SoFar) (at : ℕ) (vs : List ℕ) (t : SoFar) (end : ℕ) → Fields p c bits s at vs t end → value_or_0 s.reference ≤ min p.window c.page → value_or_0 t.reference ≤ min p.window c.page
fields_near p c bits = kept_along p c bits (λ u. value_or_0 u.reference ≤ min p.window c.page) (λ u f v is fine x. after_near p c u f v fine x)

-- ---- the same fields, validated with other limits and among other pages

abbrev other_limits : Parameters → Option ℕ → ℕ → Parameters
other_limits p chain arcs = record p { chain = chain; arcs = arcs }

module _ (p : Parameters) (c : Context) (chain : Option ℕ) (arcs : ℕ) (others : List Known) where
  abbrev Same : SoFar → Type 0
  Same s = source c s ≡ source (context_at c.page 0 others) s

  abbrev Deep : ℕ → Type 0
  Deep r = passes p.chain (depth_of c.behind r) ≡ false → passes chain (depth_of others r) ≡ false

  abbrev Room : Type 0
  Room = (d : ℕ) → d ≤ p.nodes → c.arcs_before + d ≤ p.arcs → d ≤ arcs

  same_after : (s : SoFar) (f : Field) (v : ℕ) → after p c s f v ≡ after (other_limits p chain arcs) (context_at c.page 0 others) s f v
  unfolding after
  same_after s field.Outdegree v = refl
  same_after s field.Reference v = refl
  same_after s field.BlockCount v = refl
  same_after s field.Block v = refl
  same_after s field.Copied v = refl
  same_after s field.IntervalCount v = refl
  same_after s field.Left v = refl
  same_after s field.Length v = refl
  same_after s field.Residual v = refl
  same_after s field.Record v = refl

  pub same_next : (s : SoFar) → Same s → next p c s ≡ next (other_limits p chain arcs) (context_at c.page 0 others) s
  unfolding next
  same_next s e = rw e refl

  pub same_list : (s : SoFar) → Same s → list_of p c s ≡ list_of (other_limits p chain arcs) (context_at c.page 0 others) s
  unfolding list_of
  same_list s e = ap (λ (xs : List ℕ). numbers_where (λ y. is_in y (copied_members s.blocks xs) || is_covered s.lefts s.lengths y || is_in y s.residuals) 0 p.nodes) e

  pub same_refusal : Room → (s : SoFar) (f : Field) (v : ℕ) → Same s → (f ≡ field.Reference → Deep v) → refusal p c s f v ≡ None → refusal (other_limits p chain arcs) (context_at c.page 0 others) s f v ≡ None
  unfolding refusal
  same_refusal room s field.Outdegree v e deep fine =
      let low = not_first (ltb p.nodes v) kind.Range _ fine in
      let few = (not_first (ltb p.arcs (c.arcs_before + v)) kind.Total None low.1).0 in
      rw (low.0, le-ltb arcs (0 + v) (omega (arith, room v (ltb-false p.nodes v low.0) (ltb-false p.arcs (c.arcs_before + v) few)))) refl
  same_refusal room s field.Reference v e deep fine =
      let low = not_first (ltb (min p.window c.page) v) kind.Range _ fine in rw (low.0, deep refl (not_first _ _ None low.1).0) refl
  same_refusal room s field.BlockCount v e deep fine = rw (← e) fine
  same_refusal room s field.Block v e deep fine = rw (← e) fine
  same_refusal room s field.Copied v e deep fine = rw (← e) fine
  same_refusal room s field.IntervalCount v e deep fine = rw (← e) fine
  same_refusal room s field.Left v e deep fine = fine
  same_refusal room s field.Length v e deep fine = rw (← e) fine
  same_refusal room s field.Residual v e deep fine = fine
  same_refusal room s field.Record v e deep fine = refl

  deep_of : (r v : ℕ) (o : Option ℕ) → Deep r → o ≡ Some v → (o ≡ None) ⊎ (value_or_0 o ≡ r) → Deep v
  deep_of r v o deep is (inl none) = absurd (let bad : Some v ≡ None = sym is ∙ none in cc)
  deep_of r v o deep is (inr same) = subst Deep (sym same ∙ ap value_or_0 is) deep

  stands_same : Room → (m : Need) (r : ℕ) (bits : List Bool) (s : SoFar) (at v mid : ℕ) (u : SoFar) → Deep r → Same s → (u.reference ≡ None) ⊎ (value_or_0 u.reference ≡ r) → Stands m p c bits s at v mid u
      → Stands m (other_limits p chain arcs) (context_at c.page 0 others) bits s at v mid u
  stands_same room (need.Read f code) r bits s at v mid u deep e ends x =
      (x.0, x.1, same_refusal room s f v e (λ is. deep_of r v u.reference deep (ap (λ (y : SoFar). y.reference) x.3 ∙ read_reference p c s f v is) ends) x.2, x.3 ∙ same_after s f v)
  stands_same room need.Check r bits s at v mid u deep e ends x = (x.0, x.1, same_refusal room s field.Copied v e (λ is. absurd cc) x.2, x.3 ∙ same_after s field.Copied v)
  stands_same room need.End r bits s at v mid u deep e ends x = x

  same_source : (s t : SoFar) → Keeps s t → Same t → Same s
  same_source s t (inl none) e = ap (λ (o : Option ℕ). referenced c.behind (value_or_0 o)) none ∙ sym (ap (λ (o : Option ℕ). referenced others (value_or_0 o)) none)
  same_source s t (inr same) e = ap (λ (o : Option ℕ). referenced c.behind (value_or_0 o)) same ∙ e ∙ sym (ap (λ (o : Option ℕ). referenced others (value_or_0 o)) same)

  ends_so : (u t : SoFar) (r : ℕ) → Keeps u t → value_or_0 t.reference ≡ r → (u.reference ≡ None) ⊎ (value_or_0 u.reference ≡ r)
  ends_so u t r (inl none) e = inl none
  ends_so u t r (inr same) e = inr (ap value_or_0 same ∙ e)

  pub fields_same : Room → (r : ℕ) (bits : List Bool) (s : SoFar) (at : ℕ) (vs : List ℕ) (t : SoFar) (end : ℕ) → Deep r → value_or_0 t.reference ≡ r → Same t → Fields p c bits s at vs t end
      → Fields (other_limits p chain arcs) (context_at c.page 0 others) bits s at vs t end
  fields_same room r bits s at [] t end deep is e h = h
  fields_same room r bits s at (v ∷ vs) t end deep is e h =
      let here : Same s = same_source s t (fields_keep p c bits s at (v ∷ vs) t end h) e in
      let ends = ends_so h.0 t r (fields_keep p c bits h.0 h.1 vs t end h.3) is in (
        h.0,
        h.1,
        subst (λ (m : Need). Stands m (other_limits p chain arcs) (context_at c.page 0 others) bits s at v h.1 h.0) (same_next s here) (stands_same room (next p c s) r bits s at v h.1 h.0 deep here ends h.2),
        fields_same room r bits h.0 h.1 vs t end deep is e h.3,
      )

-- ---- validated against one list

-- the list that a reference names, if it is one
abbrev pub below_of : Context → ℕ → Option (List ℕ)
below_of c zero = None
below_of c (suc r) = Some (referenced c.behind (suc r))

same_below : (p : Parameters) (c : Context) (r : ℕ) → r ≤ p.window → referenced c.behind r ≡ referenced (behind_of p (below_of c r)) r
same_below p c zero near = refl
same_below p c (suc r) near = sym (ap (λ (k : Known). k.list) (get_or-replicate p.window r (record { list = referenced c.behind (suc r); depth = 0 }) no_page (omega (arith, near))))

refers_below : (c : Context) (r : ℕ) → ltb 0 r ≡ is_some (below_of c r)
refers_below c zero = refl
refers_below c (suc r) = lt-ltb 0 (suc r) (omega arith)

-- the record, with its reference, which reaches back so far
pub record Judged (p : Parameters) (c : Context) (bits : List Bool) (at : ℕ) (w : Whole) : Type 0 where
  pub r : ℕ
  pub near : r ≤ min p.window c.page
  pub proper : IsRecord p c.page (below_of c r) (record { bits = bits; at = at }) w.known.list
  pub reference : value_or_0 proper.whole.reference ≡ r
  pub end : proper.end ≡ w.end
  pub depth : w.known.depth ≡ depth_of c.behind r

pub judged_of : (p : Parameters) (c : Context) (bits : List Bool) (at : ℕ) (w : Whole) → ReadsRecord p c bits at (Ok w) → Judged p c bits at w
judged_of p c bits at w h =
    let t : SoFar = h.1 in
    let r : ℕ = value_or_0 t.reference in
    let near : r ≤ min p.window c.page = fields_near p c bits nothing_yet at h.0 t h.2 h.3 (omega arith) in
    let others = behind_of p (below_of c r) in
    let e : source c t ≡ source (context_at c.page 0 others) t = same_below p c r (omega (arith, near)) in
    record {
      r = r;
      near = near;
      proper = record {
        stored = h.0;
        whole = t;
        end = h.2;
        fields = fields_same p c None p.nodes others (λ d few total. few) r bits nothing_yet at h.0 t h.2 (λ shallow. refl) refl e h.3;
        ends = sym (same_next p c None p.nodes others t e) ∙ h.4.0;
        list_is = h.4.2 ∙ same_list p c None p.nodes others t e;
        outdegree = ap (λ (l : List ℕ). length l) h.4.2 ∙ h.4.1;
        refers = refers_below c r;
      };
      reference = refl;
      end = sym h.4.4;
      depth = h.4.3;
    }
