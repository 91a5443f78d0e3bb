-- The words of a proper record, one field after the other.
use Rattle.std.proofs.Common.{◌≡◌, ℕ, zero, suc, ◌+◌, ◌-◌, ◌^◌, ◌<◌, ◌≤◌, min, Bool, true, false, cond, ◌&&◌, eqb, ltb, inl, inr, List, [], ◌∷◌, ◌++◌, length, drop, Option, Some, None, refl, sym, ap, subst, ◌∙◌, arith}
use Rattle.std.specs.Prelude.{sum, is_some}
use Rattle.std.proofs.lemmas.Bool.{cases_Bool, lt-ltb, le-ltb, ltb-true, ltb-false, eqb-true, eqb-false}
use Rattle.std.proofs.lemmas.List.{length_push, append-nil, append_assoc, get_or-replicate}
use Rattle.wg_params.specs.declared.code.Code.{Code}
use Rattle.wg_params.specs.declared.code.Code.TheVariants.{Gamma}
use Rattle.wg_params.specs.Parameters.{Parameters}
use Rattle.wg_grammar.specs.declared.fault.Field.TheVariants as field
use Rattle.wg_grammar.specs.declared.fault.Kind.TheVariants as kind
use Rattle.wg_grammar.specs.declared.need.Need.TheVariants as need
use Rattle.wg_grammar.specs.Context.{Known, Context, no_page, referenced}
use Rattle.wg_grammar.specs.SoFar.{SoFar, nothing_yet, after, value_or_0}
use Rattle.wg_grammar.specs.Next.{next}
use Rattle.wg_grammar.specs.Refusal.{refusal}
use Rattle.wg_graph.proofs.Copies.{sum_push}
use Rattle.wg_codes.specs.Standing.{IsWord}
use Rattle.wg_decoder.specs.Proper.Laid.{MaybeWord, WordsTo, IntervalsTo, ResidualsTo, list_or_none}
use Rattle.wg_blocks.specs.Stored.{blocks_after}
use Rattle.wg_decoder.specs.Proper.{behind_of}
use Rattle.wg_decoder.proofs.ProperLemmas.Taking.{block_first, no_blocks}
use Rattle.wg_grammar.proofs.Along.{not_first}
use Rattle.wg_decoder.proofs.ProperLemmas.Going.{step_of, state, copy, HasHead, Settled, NoCount, Filled, next_block, next_interval_count}
use Rattle.wg_decoder.specs.Apart.{of_outdegree}
use Rattle.wg_decoder.proofs.HeadLemmas.{outdegree_due, reference_due, reference_near}
use Rattle.wg_decoder.proofs.ProperLemmas.Tails.{residuals_go, intervals_go}
use Rattle.wg_decoder.specs.Stages.Leading.{LeadsTo}

-- ---- blocks

pub record Blocks (p : Parameters) (c : Context) (bits : List Bool) (d : ℕ) (r : Option ℕ) (n : ℕ) (bs : List ℕ) (at count : ℕ) (t : SoFar) (end : ℕ) : Type 0 where
  pub mid : ℕ
  pub values : List ℕ
  pub all : length values ≡ count
  pub stand : WordsTo p.blocks values (drop at bits) (drop mid bits)
  pub within : sum (bs ++ blocks_after (length bs) values) ≤ length (referenced c.behind (value_or_0 r))
  pub on : LeadsTo p c bits (state d r (Some n) (bs ++ blocks_after (length bs) values) false None [] [] []) mid t end

blocks_end : (bs : List ℕ) → bs ++ blocks_after (length bs) [] ≡ bs
blocks_end bs = ap (λ (l : List ℕ). bs ++ l) (no_blocks (length bs)) ∙ append-nil bs

blocks_more : (bs vs : List ℕ) (v b : ℕ) → b ≡ cond (eqb (length bs) 0) v (v + 1) → (bs ++ b ∷ []) ++ blocks_after (length (bs ++ b ∷ [])) vs ≡ bs ++ blocks_after (length bs) (v ∷ vs)
blocks_more bs vs v b is =
    let one_more : length (bs ++ b ∷ []) ≡ suc (length bs) = omega (arith, length_push bs b) in
    append_assoc bs (b ∷ []) (blocks_after (length (bs ++ b ∷ [])) vs)
    ∙ ap (λ (k : ℕ). bs ++ (b ∷ blocks_after k vs)) one_more
    ∙ ap (λ (k : ℕ). bs ++ (k ∷ blocks_after (suc (length bs)) vs)) is
    ∙ ap (λ (l : List ℕ). bs ++ l) (sym (block_first (length bs) v vs))

pub blocks_go : (count : ℕ) (p : Parameters) (c : Context) (bits : List Bool) (d : ℕ) (r : Option ℕ) (n : ℕ) (bs : List ℕ) (at : ℕ) (t : SoFar) (end : ℕ) → HasHead p d r → ltb 0 (value_or_0 r) ≡ true → next p c t ≡ need.End → length bs + count ≡ n → sum bs ≤ length (referenced c.behind (value_or_0 r))
    → LeadsTo p c bits (state d r (Some n) bs false None [] [] []) at t end → Blocks p c bits d r n bs at count t end
unfolding after refusal
blocks_go zero p c bits d r n bs at t end h refers ends total fits on = record {
  mid = at;
  values = [];
  all = refl;
  stand = refl;
  within = subst (λ (l : List ℕ). sum l ≤ length (referenced c.behind (value_or_0 r))) (sym (blocks_end bs)) fits;
  on = subst (λ (l : List ℕ). LeadsTo p c bits (state d r (Some n) l false None [] [] []) at t end) (sym (blocks_end bs)) on;
}
blocks_go (suc count) p c bits d r n bs at t end h refers ends total fits on =
    let f = step_of p c bits (state d r (Some n) bs false None [] [] []) at field.Block p.blocks t end (next_block p c d r n bs h refers (lt-ltb (length bs) n (omega (arith, total)))) ends on in
    let b : ℕ = cond (eqb (length bs) 0) f.v (f.v + 1) in
    let room : sum bs + b ≤ length (referenced c.behind (value_or_0 r)) = ltb-false _ _ (not_first _ kind.Range None f.fine).0 in
    let g = blocks_go count p c bits d r n (bs ++ b ∷ []) f.mid t end h refers ends (omega (arith, total, length_push bs b)) (omega (arith, room, sum_push bs b)) f.on in
    let same : (bs ++ b ∷ []) ++ blocks_after (length (bs ++ b ∷ [])) g.values ≡ bs ++ blocks_after (length bs) (f.v ∷ g.values) = blocks_more bs g.values f.v b refl in
    record {
      mid = g.mid;
      values = f.v ∷ g.values;
      all = ap (λ (k : ℕ). suc k) g.all;
      stand = (drop f.mid bits, f.stands, g.stand);
      within = subst (λ (l : List ℕ). sum l ≤ length (referenced c.behind (value_or_0 r))) same g.within;
      on = subst (λ (l : List ℕ). LeadsTo p c bits (state d r (Some n) l false None [] [] []) g.mid t end) same g.on;
    }

-- ---- what comes after the blocks

pub record Tail (p : Parameters) (c : Context) (bits : List Bool) (d : ℕ) (r n : Option ℕ) (bs : List ℕ) (k : Bool) (at : ℕ) (t : SoFar) (end : ℕ) : Type 0 where
  pub lefts : List ℕ
  pub lengths : List ℕ
  pub mid : ℕ
  pub count_stands : MaybeWord (ltb 0 (d - length (copy c r bs)) && ltb 0 p.interval) Gamma (length lefts) (drop at bits) (drop mid bits)
  pub last : ℕ
  pub intervals_stand : IntervalsTo c.page p.interval None lefts lengths (drop mid bits) (drop last bits)
  pub inside_fit : sum lengths ≤ d - length (copy c r bs)
  pub residuals : List ℕ
  pub residuals_stand : ResidualsTo p.residuals c.page None residuals (drop last bits) (drop end bits)
  pub residuals_fill : length residuals ≡ d - length (copy c r bs) - sum lengths
  pub i : Option ℕ
  pub whole : t ≡ state d r n bs k i lefts lengths residuals

maybe_there : (b : Bool) (code : Code) (v : ℕ) (z y : List Bool) → b ≡ true → IsWord code v z y → MaybeWord b code v z y
maybe_there true code v z y e h = h
maybe_there false code v z y e h = absurd cc

maybe_not : (b : Bool) (code : Code) (z : List Bool) → b ≡ false → MaybeWord b code 0 z z
maybe_not true code z e = absurd cc
maybe_not false code z e = (refl, refl)

pub tail_of : (p : Parameters) (c : Context) (bits : List Bool) (d : ℕ) (r n : Option ℕ) (bs : List ℕ) (k : Bool) (at : ℕ) (t : SoFar) (end : ℕ) → Settled p d r n bs k → p.nodes ≤ 2 ^ 62 → next p c t ≡ need.End → LeadsTo p c bits (state d r n bs k None [] [] []) at t end → Tail p c bits d r n bs k at t end
unfolding after
tail_of p c bits d r n bs k at t end h few ends on =
    elim (cases_Bool (ltb 0 (d - length (copy c r bs)) && ltb 0 p.interval)) [
      | inl there ↦
          let f = step_of p c bits (state d r n bs k None [] [] []) at field.IntervalCount Gamma t end (next_interval_count p c d r n bs k h there) ends on in
          let i : Option ℕ = Some f.v in
          let no_count : NoCount p c d r bs i = rw there refl in
          let least : 0 < p.interval = ltb-true 0 p.interval (second (ltb 0 (d - length (copy c r bs))) (ltb 0 p.interval) there) in
          let g = intervals_go f.v p c bits d r n bs k i [] [] f.mid t end h no_count few ends least refl (omega arith) (omega arith) f.on in
          let filled : Filled p c d r n bs k i g.lefts g.lengths = record { settled = h; no_count = no_count; no_length = le-ltb _ _ (omega (arith, g.all, g.each)); no_left = le-ltb _ _ (omega (arith, g.all)) } in
          let e = residuals_go (d - length (copy c r bs) - sum g.lengths) p c bits d r n bs k i g.lefts g.lengths [] g.mid t end filled few ends (omega arith) g.on in
          record {
            lefts = g.lefts;
            lengths = g.lengths;
            mid = f.mid;
            count_stands = subst (λ (j : ℕ). MaybeWord (ltb 0 (d - length (copy c r bs)) && ltb 0 p.interval) Gamma j (drop at bits) (drop f.mid bits)) (sym g.all) (maybe_there _ Gamma f.v (drop at bits) (drop f.mid bits) there f.stands);
            last = g.mid;
            intervals_stand = g.stand;
            inside_fit = g.fit;
            residuals = e.ys;
            residuals_stand = e.stand;
            residuals_fill = e.all;
            i = i;
            whole = e.whole;
          }
      | inr not_there ↦
          let no_count : NoCount p c d r bs None = rw not_there refl in
          let filled : Filled p c d r n bs k None [] [] = record { settled = h; no_count = no_count; no_length = refl; no_left = refl } in
          let e = residuals_go (d - length (copy c r bs) - 0) p c bits d r n bs k None [] [] [] at t end filled few ends (omega arith) on in
          record {
            lefts = [];
            lengths = [];
            mid = at;
            count_stands = maybe_not _ Gamma (drop at bits) not_there;
            last = at;
            intervals_stand = refl;
            inside_fit = omega arith;
            residuals = e.ys;
            residuals_stand = e.stand;
            residuals_fill = e.all;
            i = None;
            whole = e.whole;
          }
    ]
  where
    second : (a b : Bool) → (a && b) ≡ true → b ≡ true
    second true b e = e
    second false b e = absurd cc

-- ---- the page below

true_false : (b : Bool) → b ≡ true → b ≡ false → ⊥
true_false b e f = let g : true ≡ false = sym e ∙ f in cc

pub source_is : (p : Parameters) (below : Option (List ℕ)) (v : ℕ) → v ≤ p.window → ltb 0 v ≡ is_some below → referenced (behind_of p below) v ≡ list_or_none below
source_is p None zero near is = refl
source_is p None (suc v) near is = absurd (true_false (ltb 0 (suc v)) (lt-ltb 0 (suc v) (omega arith)) is)
source_is p (Some list) zero near is = absurd (true_false true refl (sym is))
source_is p (Some list) (suc v) near is = ap (λ (k : Known). k.list) (get_or-replicate p.window v (record { list = list; depth = 0 }) no_page (omega (arith, near)))

-- ---- the whole record

-- the words up to the reference, and the record goes on from there
pub record Head (p : Parameters) (c : Context) (bits : List Bool) (at : ℕ) (t : SoFar) (end : ℕ) : Type 0 where
  pub d : ℕ
  pub mid : ℕ
  pub outdegree_stands : IsWord p.outdegrees d (drop at bits) (drop mid bits)
  pub reference : ℕ
  pub last : ℕ
  pub reference_stands : MaybeWord (ltb 0 d && ltb 0 p.window) p.references reference (drop mid bits) (drop last bits)
  pub near : reference ≤ p.window
  pub r : Option ℕ
  pub r_is : value_or_0 r ≡ reference
  pub has : eqb d 0 ≡ false → HasHead p d r
  pub none : eqb d 0 ≡ true → r ≡ None
  pub on : LeadsTo p c bits (state d r None [] false None [] [] []) last t end

pub head_of : (p : Parameters) (c : Context) (bits : List Bool) (at : ℕ) (t : SoFar) (end : ℕ) → next p c t ≡ need.End → LeadsTo p c bits nothing_yet at t end → Head p c bits at t end
unfolding after refusal
head_of p c bits at t end ends on =
    let f = step_of p c bits nothing_yet at field.Outdegree p.outdegrees t end (outdegree_due p c) ends on in
    elim (cases_Bool (eqb f.v 0)) [
      | inl empty ↦ record {
        d = f.v;
        mid = f.mid;
        outdegree_stands = f.stands;
        reference = 0;
        last = f.mid;
        reference_stands = maybe_not (ltb 0 f.v && ltb 0 p.window) p.references (drop f.mid bits) (let none : ltb 0 f.v ≡ false = le-ltb 0 f.v (let e = eqb-true f.v 0 empty in omega (arith, e)) in rw none refl);
        near = omega arith;
        r = None;
        r_is = refl;
        has = λ e. absurd (true_false (eqb f.v 0) empty e);
        none = λ e. refl;
        on = f.on;
      }
      | inr some ↦ elim (cases_Bool (ltb 0 p.window)) [
        | inr no_window ↦ record {
          d = f.v;
          mid = f.mid;
          outdegree_stands = f.stands;
          reference = 0;
          last = f.mid;
          reference_stands = maybe_not (ltb 0 f.v && ltb 0 p.window) p.references (drop f.mid bits) (rw no_window (no_and (ltb 0 f.v)));
          near = omega arith;
          r = None;
          r_is = refl;
          has = λ e. record { some = some; reference = rw no_window refl };
          none = λ e. refl;
          on = f.on;
        }
        | inl window ↦
            let above : 0 < f.v = let e : f.v ≡ 0 → ⊥ = eqb-false f.v 0 some in omega (arith, e) in
            let g = step_of p c bits (of_outdegree f.v) f.mid field.Reference p.references t end (reference_due p c f.v above (ltb-true 0 p.window window)) ends f.on in
            let near : g.v ≤ min p.window c.page = reference_near p c (of_outdegree f.v) g.v g.fine in
            record {
              d = f.v;
              mid = f.mid;
              outdegree_stands = f.stands;
              reference = g.v;
              last = g.mid;
              reference_stands = maybe_there (ltb 0 f.v && ltb 0 p.window) p.references g.v (drop f.mid bits) (drop g.mid bits) (rw (lt-ltb 0 f.v above, window) refl) g.stands;
              near = omega (arith, near);
              r = Some g.v;
              r_is = refl;
              has = λ e. record { some = some; reference = rw window refl };
              none = λ e. absurd (true_false (eqb f.v 0) e some);
              on = g.on;
            }
      ]
    ]
  where
    no_and : (b : Bool) → (b && false) ≡ false
    no_and true = refl
    no_and false = refl
