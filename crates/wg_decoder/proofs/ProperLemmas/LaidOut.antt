-- A proper record is laid out as words.
use Rattle.std.proofs.Common.{◌≡◌, ℕ, suc, ◌-◌, ◌^◌, ◌≤◌, Bool, true, false, eqb, ltb, inl, inr, List, [], ◌∷◌, length, drop, Option, Some, None, refl, sym, ap, subst, ◌∙◌, arith}
use Rattle.std.specs.Prelude.{sum, is_some}
use Rattle.std.proofs.lemmas.Bool.{cases_Bool, le-ltb, ltb-false, eqb-true}
use Rattle.wg_params.specs.declared.code.Code.{Code}
use Rattle.wg_params.specs.Parameters.{Parameters}
use Rattle.wg_bits.specs.Bits.{Position, rest}
use Rattle.wg_grammar.specs.declared.fault.Field.TheVariants as field
use Rattle.wg_grammar.specs.declared.fault.Kind.TheVariants as kind
use Rattle.wg_grammar.specs.declared.need.Need.TheVariants as need
use Rattle.wg_grammar.specs.Context.{Context, referenced}
use Rattle.wg_grammar.specs.SoFar.{SoFar, after, value_or_0}
use Rattle.wg_grammar.specs.Next.{next}
use Rattle.wg_grammar.specs.Refusal.{refusal}
use Rattle.wg_grammar.specs.Members.{list_of}
use Rattle.wg_graph.specs.Copied.{copied_members}
use Rattle.wg_blocks.specs.Stored.{blocks_of, later_blocks}
use Rattle.wg_codes.specs.Standing.{IsWord}
use Rattle.wg_decoder.specs.Proper.Laid.{MaybeWord, WordsTo, list_or_none, Laid}
use Rattle.wg_decoder.specs.Proper.{unlimited, context_on, IsRecord}
use Rattle.wg_decoder.proofs.ProperLemmas.Taking.{all_copied}
use Rattle.wg_grammar.proofs.Along.{not_first}
use Rattle.wg_decoder.proofs.ProperLemmas.Going.{step_of, check_of, stop_of, end_of, state, copy, HasHead, Settled, next_block_count, next_check}
use Rattle.wg_decoder.proofs.ProperLemmas.Heads.{blocks_go, Tail, tail_of, source_is, Head, head_of}
use Rattle.wg_decoder.specs.Stages.Leading.{LeadsTo}

yes_word : (b : Bool) (code : Code) (v : ℕ) (z y : List Bool) → b ≡ true → IsWord code v z y → MaybeWord b code v z y
yes_word true code v z y e h = h
yes_word false code v z y e h = absurd cc

no_word : (b : Bool) (code : Code) (z : List Bool) → b ≡ false → MaybeWord b code 0 z z
no_word true code z e = absurd cc
no_word false code z e = (refl, refl)

-- what has been read of the blocks, from the bit last to the bit mid
record Middle (p : Parameters) (page : ℕ) (below : Option (List ℕ)) (bits : List Bool) (d : ℕ) (r : Option ℕ) (last : ℕ) (t : SoFar) (stop : ℕ) : Type 0 where
  n : Option ℕ
  bs : List ℕ
  k : Bool
  values : List ℕ
  mid : ℕ
  end : ℕ
  count_stands : MaybeWord (is_some below) p.block_counts (length values) (drop last bits) (drop mid bits)
  blocks_stand : WordsTo p.blocks values (drop mid bits) (drop end bits)
  blocks_are : bs ≡ blocks_of values
  within : sum bs ≤ length (referenced (context_on p page below).behind (value_or_0 r))
  copied_fit : length (copy (context_on p page below) r bs) ≤ d
  tail : Tail (unlimited p) (context_on p page below) bits d r n bs k end t stop

whole_reference : (p : Parameters) (c : Context) (bits : List Bool) (d : ℕ) (r n : Option ℕ) (bs : List ℕ) (k : Bool) (at : ℕ) (t : SoFar) (end : ℕ) (below : Option (List ℕ)) → ltb 0 (value_or_0 t.reference) ≡ is_some below → Tail p c bits d r n bs k at t end → ltb 0 (value_or_0 r) ≡ is_some below
whole_reference p c bits d r n bs k at t end below is h = ap (λ (s : SoFar). ltb 0 (value_or_0 s.reference)) (sym h.whole) ∙ is

-- nothing is copied without a reference
copied_none : (c : Context) (r : Option ℕ) → value_or_0 r ≡ 0 → copy c r [] ≡ []
copied_none c r e = ap (λ (v : ℕ). copied_members [] (referenced c.behind v)) e ∙ all_copied []

ends_empty : (p : Parameters) (c : Context) (d : ℕ) (r : Option ℕ) → eqb d 0 ≡ true → next p c (state d r None [] false None [] [] []) ≡ need.End
unfolding next
ends_empty p c d r empty = rw empty refl

-- where there is no page below, nothing is copied
middle_alone : (p : Parameters) (page : ℕ) (below : Option (List ℕ)) (bits : List Bool) (d : ℕ) (r : Option ℕ) (last : ℕ) (t : SoFar) (end : ℕ) → is_some below ≡ false → copy (context_on p page below) r [] ≡ []
    → Tail (unlimited p) (context_on p page below) bits d r None [] false last t end → Middle p page below bits d r last t end
middle_alone p page below bits d r last t end no_below nothing tail = record {
  n = None;
  bs = [];
  k = false;
  values = [];
  mid = last;
  end = last;
  count_stands = no_word (is_some below) p.block_counts (drop last bits) no_below;
  blocks_stand = refl;
  blocks_are = refl;
  within = omega arith;
  copied_fit = omega (arith, ap (λ (l : List ℕ). length l) nothing);
  tail = tail;
}

middle_empty : (p : Parameters) (page : ℕ) (below : Option (List ℕ)) (bits : List Bool) (d : ℕ) (r : Option ℕ) (last : ℕ) (t : SoFar) (end : ℕ) → eqb d 0 ≡ true → r ≡ None → ltb 0 (value_or_0 t.reference) ≡ is_some below
    → LeadsTo (unlimited p) (context_on p page below) bits (state d r None [] false None [] [] []) last t end → Middle p page below bits d r last t end
middle_empty p page below bits d r last t end empty none refers on =
    let zero_d : d ≡ 0 = eqb-true d 0 empty in
    let whole : t ≡ state d r None [] false None [] [] [] = stop_of (unlimited p) (context_on p page below) bits (state d r None [] false None [] [] []) last t end (ends_empty (unlimited p) (context_on p page below) d r empty) on in
    let nothing : copy (context_on p page below) r [] ≡ [] = copied_none (context_on p page below) r (ap value_or_0 none) in
    let left : d - length (copy (context_on p page below) r []) ≡ 0 = omega (arith, zero_d) in
    let tail : Tail (unlimited p) (context_on p page below) bits d r None [] false last t end = record {
      lefts = [];
      lengths = [];
      mid = last;
      count_stands = no_word _ _ (drop last bits) (let e : ltb 0 (d - length (copy (context_on p page below) r [])) ≡ false = ap (ltb 0) left in rw e refl);
      last = last;
      intervals_stand = refl;
      inside_fit = omega arith;
      residuals = [];
      residuals_stand = ap (λ (j : ℕ). drop j bits) (end_of (unlimited p) (context_on p page below) bits (state d r None [] false None [] [] []) last t end (ends_empty (unlimited p) (context_on p page below) d r empty) on);
      residuals_fill = omega (arith, left);
      i = None;
      whole = whole;
    } in
    let no_below : is_some below ≡ false = sym (whole_reference (unlimited p) (context_on p page below) bits d r None [] false last t end below refers tail) ∙ ap (λ (o : Option ℕ). ltb 0 (value_or_0 o)) none in
    middle_alone p page below bits d r last t end no_below nothing tail

middle_plain : (p : Parameters) (page : ℕ) (below : Option (List ℕ)) (bits : List Bool) (d : ℕ) (r : Option ℕ) (last : ℕ) (t : SoFar) (end : ℕ) → HasHead (unlimited p) d r → ltb 0 (value_or_0 r) ≡ false → p.nodes ≤ 2 ^ 62 → next (unlimited p) (context_on p page below) t ≡ need.End
    → ltb 0 (value_or_0 t.reference) ≡ is_some below → LeadsTo (unlimited p) (context_on p page below) bits (state d r None [] false None [] [] []) last t end → Middle p page below bits d r last t end
middle_plain p page below bits d r last t end h none few ends refers on =
    let settled : Settled (unlimited p) d r None [] false = record { some = h.some; reference = h.reference; count = rw none refl; blocks = refl; checked = rw none refl } in
    let tail = tail_of (unlimited p) (context_on p page below) bits d r None [] false last t end settled few ends on in
    let no_below : is_some below ≡ false = sym (whole_reference (unlimited p) (context_on p page below) bits d r None [] false last t end below refers tail) ∙ none in
    let zero_r : value_or_0 r ≡ 0 = (let e : value_or_0 r ≤ 0 = ltb-false 0 (value_or_0 r) none in omega (arith, e)) in
    let nothing : copy (context_on p page below) r [] ≡ [] = copied_none (context_on p page below) r zero_r in
    middle_alone p page below bits d r last t end no_below nothing tail

middle_referring : (p : Parameters) (page : ℕ) (below : Option (List ℕ)) (bits : List Bool) (d : ℕ) (r : Option ℕ) (last : ℕ) (t : SoFar) (end : ℕ) → HasHead (unlimited p) d r → ltb 0 (value_or_0 r) ≡ true → p.nodes ≤ 2 ^ 62 → next (unlimited p) (context_on p page below) t ≡ need.End
    → ltb 0 (value_or_0 t.reference) ≡ is_some below → LeadsTo (unlimited p) (context_on p page below) bits (state d r None [] false None [] [] []) last t end → Middle p page below bits d r last t end
unfolding after refusal
middle_referring p page below bits d r last t end h some few ends refers on =
    let c = context_on p page below in
    let f = step_of (unlimited p) c bits (state d r None [] false None [] [] []) last field.BlockCount p.block_counts t end (next_block_count (unlimited p) c d r h some) ends on in
    let g = blocks_go f.v (unlimited p) c bits d r f.v [] f.mid t end h some ends (omega arith) (omega arith) f.on in
    let bs : List ℕ = blocks_of g.values in
    let no_more : ltb (length bs) f.v ≡ false = le-ltb (length bs) f.v (omega (arith, same_length g.values, g.all)) in
    let e = check_of (unlimited p) c bits (state d r (Some f.v) bs false None [] [] []) g.mid t end (next_check (unlimited p) c d r f.v bs h some no_more) ends g.on in
    let settled : Settled (unlimited p) d r (Some f.v) bs true = record { some = h.some; reference = h.reference; count = rw some refl; blocks = no_more; checked = rw some refl } in
    let tail = tail_of (unlimited p) c bits d r (Some f.v) bs true g.mid t end settled few ends e.1 in
    let yes_below : is_some below ≡ true = sym (whole_reference (unlimited p) c bits d r (Some f.v) bs true g.mid t end below refers tail) ∙ some in
    record {
      n = Some f.v;
      bs = bs;
      k = true;
      values = g.values;
      mid = f.mid;
      end = g.mid;
      count_stands = subst (λ (j : ℕ). MaybeWord (is_some below) p.block_counts j (drop last bits) (drop f.mid bits)) (sym g.all) (yes_word (is_some below) p.block_counts f.v (drop last bits) (drop f.mid bits) yes_below f.stands);
      blocks_stand = g.stand;
      blocks_are = refl;
      within = g.within;
      copied_fit = ltb-false _ _ (not_first _ kind.Copied None e.0).0;
      tail = tail;
    }
  where
    same_later : (vs : List ℕ) → length (later_blocks vs) ≡ length vs
    same_later [] = refl
    same_later (v ∷ vs) = ap (λ (k : ℕ). suc k) (same_later vs)

    same_length : (vs : List ℕ) → length (blocks_of vs) ≡ length vs
    same_length [] = refl
    same_length (v ∷ vs) = ap (λ (k : ℕ). suc k) (same_later vs)

laid_by : (p : Parameters) (page : ℕ) (below : Option (List ℕ)) (position : Position) (list : List ℕ) → (h : IsRecord p page below position list) → (g : Head (unlimited p) (context_on p page below) position.bits position.at h.whole h.end) → Middle p page below position.bits g.d g.r g.last h.whole h.end
    → Laid p page below (rest position) list
unfolding list_of
laid_by p page below position list h g m =
    let c = context_on p page below in
    let refers = whole_reference (unlimited p) c position.bits g.d g.r m.n m.bs m.k m.end h.whole h.end below h.refers m.tail in
    let source : referenced c.behind (value_or_0 g.r) ≡ list_or_none below = source_is p below (value_or_0 g.r) (omega (arith, g.near, g.r_is)) refers in
    record {
      outdegree = g.d;
      after_outdegree = drop g.mid position.bits;
      outdegree_stands = g.outdegree_stands;
      reference = g.reference;
      after_reference = drop g.last position.bits;
      reference_stands = g.reference_stands;
      values = m.values;
      after_count = drop m.mid position.bits;
      count_stands = m.count_stands;
      after_blocks = drop m.end position.bits;
      blocks_stand = m.blocks_stand;
      within = subst (λ (l : List ℕ). sum (blocks_of m.values) ≤ length l) source (subst (λ (bs : List ℕ). sum bs ≤ length (referenced c.behind (value_or_0 g.r))) m.blocks_are m.within);
      copied = copy c g.r m.bs;
      copied_is = ap (λ (bs : List ℕ). copied_members bs (referenced c.behind (value_or_0 g.r))) m.blocks_are ∙ ap (copied_members (blocks_of m.values)) source;
      copied_fit = m.copied_fit;
      lefts = m.tail.lefts;
      lengths = m.tail.lengths;
      after_interval_count = drop m.tail.mid position.bits;
      interval_count_stands = m.tail.count_stands;
      after_intervals = drop m.tail.last position.bits;
      intervals_stand = m.tail.intervals_stand;
      inside_fit = m.tail.inside_fit;
      residuals = m.tail.residuals;
      behind = drop h.end position.bits;
      residuals_stand = m.tail.residuals_stand;
      residuals_fill = m.tail.residuals_fill;
      members = h.list_is ∙ ap (list_of (unlimited p) c) m.tail.whole;
      all = h.outdegree ∙ ap (λ (s : SoFar). value_or_0 s.outdegree) m.tail.whole;
    }

-- the words, what the reference among them is, and what stands behind them
pub record WithReference (p : Parameters) (page : ℕ) (below : Option (List ℕ)) (position : Position) (list : List ℕ) (h : IsRecord p page below position list) : Type 0 where
  pub laid : Laid p page below (rest position) list
  pub reference : laid.reference ≡ value_or_0 h.whole.reference
  pub behind : laid.behind ≡ drop h.end position.bits

with_reference : (p : Parameters) (page : ℕ) (below : Option (List ℕ)) (position : Position) (list : List ℕ) → (h : IsRecord p page below position list) → (g : Head (unlimited p) (context_on p page below) position.bits position.at h.whole h.end) → Middle p page below position.bits g.d g.r g.last h.whole h.end
    → WithReference p page below position list h
unfolding laid_by
with_reference p page below position list h g m = record { laid = laid_by p page below position list h g m; reference = sym g.r_is ∙ ap (λ (s : SoFar). value_or_0 s.reference) (sym m.tail.whole); behind = refl }

pub laid_with : (p : Parameters) (page : ℕ) (below : Option (List ℕ)) (position : Position) (list : List ℕ) → p.nodes ≤ 2 ^ 62 → (h : IsRecord p page below position list) → WithReference p page below position list h
laid_with p page below position list few h =
    let c = context_on p page below in
    let g = head_of (unlimited p) c position.bits position.at h.whole h.end h.ends (h.stored, h.fields) in
    elim (cases_Bool (eqb g.d 0)) [
      | inl empty ↦ with_reference p page below position list h g (middle_empty p page below position.bits g.d g.r g.last h.whole h.end empty (g.none empty) h.refers g.on)
      | inr some ↦ elim (cases_Bool (ltb 0 (value_or_0 g.r))) [
        | inl refers ↦ with_reference p page below position list h g (middle_referring p page below position.bits g.d g.r g.last h.whole h.end (g.has some) refers few h.ends h.refers g.on)
        | inr plain ↦ with_reference p page below position list h g (middle_plain p page below position.bits g.d g.r g.last h.whole h.end (g.has some) plain few h.ends h.refers g.on)
      ]
    ]

pub laid_of : (p : Parameters) (page : ℕ) (below : Option (List ℕ)) (position : Position) (list : List ℕ) → p.nodes ≤ 2 ^ 62 → IsRecord p page below position list → Laid p page below (rest position) list
laid_of p page below position list few h = (laid_with p page below position list few h).laid
