-- The intervals and residuals of a record, to its end.
use Rattle.std.proofs.Common.{◌≡◌, ℕ, zero, suc, ◌+◌, ◌-◌, ◌^◌, ◌<◌, ◌≤◌, Bool, true, false, ◌||◌, ltb, List, [], ◌∷◌, ◌++◌, length, drop, Option, Some, None, refl, sym, ap, subst, ◌∙◌, arith}
use Rattle.std.specs.Prelude.{sum}
use Rattle.std.proofs.lemmas.Bool.{lt-ltb, le-ltb, ltb-true, ltb-false, ne_eqb}
use Rattle.std.proofs.lemmas.List.{length_push, append-nil, append_assoc}
use Rattle.wg_params.specs.declared.code.Code.TheVariants.{Gamma}
use Rattle.wg_params.specs.Parameters.{Parameters}
use Rattle.wg_grammar.specs.declared.fault.Field.TheVariants as field
use Rattle.wg_grammar.specs.declared.fault.Kind.TheVariants as kind
use Rattle.wg_grammar.specs.declared.need.Need.TheVariants as need
use Rattle.wg_grammar.specs.Context.{Context}
use Rattle.wg_grammar.specs.SoFar.{SoFar, after, value_or_0, last_of, own_left, own_residual}
use Rattle.wg_grammar.specs.Next.{next}
use Rattle.wg_grammar.specs.Refusal.{refusal}
use Rattle.wg_grammar.proofs.Tallies.{last_push}
use Rattle.wg_graph.proofs.Copies.{sum_push}
use Rattle.wg_codes.specs.Fold.{number_of_gap}
use Rattle.wg_intervals.specs.Stored.{IsInterval}
use Rattle.wg_decoder.specs.Proper.Laid.{ResidualsTo, IntervalsTo}
use Rattle.wg_grammar.proofs.Along.{not_first}
use Rattle.wg_decoder.proofs.ProperLemmas.Going.{step_of, stop_of, end_of, state, copy, Settled, NoCount, Filled, next_length, next_left, next_residual, page_of}
use Rattle.wg_decoder.specs.Stages.Leading.{LeadsTo}
use Rattle.wg_decoder.proofs.InsideLists.{past_of, past_push}

-- ---- numbers

more_left : (a count : ℕ) → a ≡ suc count → 0 < a
more_left a count left = omega arith

one_less : (a s l k count : ℕ) → a - (s + l) ≡ suc count → k ≡ l + 1 → a - (s + k) ≡ count
one_less a s l k count left longer = omega arith

below_most : (y n m : ℕ) → y < n → n ≤ m → y < m
below_most y n m low few = omega arith

no_more : (a b : ℕ) → a ≡ b → a ≤ b
no_more a b same = omega arith

some_more : (a count n : ℕ) → a + suc count ≡ n → a < n
some_more a count n total = omega arith

one_longer : (a b k : ℕ) → a ≡ b → k ≡ a + 1 → b < k
one_longer a b k same longer = omega arith

both_longer : (a b k m : ℕ) → a ≡ b → k ≡ a + 1 → m ≡ b + 1 → k ≡ m
both_longer a b k m same longer as_long = omega arith

still_total : (a k count n : ℕ) → a + suc count ≡ n → k ≡ a + 1 → k + count ≡ n
still_total a k count n total longer = omega arith

still_fit : (s t m most : ℕ) → s ≤ most → m ≤ most - (s + 0) → t ≡ s + m → t ≤ most
still_fit s t m most fit room now = omega arith

left_within : (k l v least n most : ℕ) → k + v + least ≤ n → n ≤ most → k ≡ l → l ≤ most
left_within k l v least n most within few last = omega arith

end_within : (k l v least n most : ℕ) → k + v + least ≤ n → n ≤ most → k ≡ l → l + (v + least) ≤ most + 1
end_within k l v least n most within few last = omega arith

-- ---- residuals

-- the last one, if there is one
abbrev pub last_one : List ℕ → Option ℕ
last_one [] = None
last_one (x ∷ xs) = Some (last_of (x ∷ xs))

last_one_push : (xs : List ℕ) (y : ℕ) → last_one (xs ++ y ∷ []) ≡ Some y
last_one_push [] y = refl
last_one_push (x ∷ xs) y = ap (λ (k : ℕ). Some k) (last_push (x ∷ xs) y)

own_is : (c : Context) (d : ℕ) (r n : Option ℕ) (bs : List ℕ) (k : Bool) (i : Option ℕ) (ls ns xs : List ℕ) (v : ℕ) → own_residual c (state d r n bs k i ls ns xs) v ≡ number_of_gap c.page (last_one xs) v
own_is c d r n bs k i ls ns [] v = refl
own_is c d r n bs k i ls ns (x ∷ xs) v = rw (ne_eqb (length (x ∷ xs)) 0 (λ e. omega (arith, e))) refl

-- these residuals stand from the bit at to the bit end, and then nothing
pub record Rest (p : Parameters) (c : Context) (bits : List Bool) (d : ℕ) (r n : Option ℕ) (bs : List ℕ) (k : Bool) (i : Option ℕ) (ls ns xs : List ℕ) (at count : ℕ) (t : SoFar) (end : ℕ) : Type 0 where
  pub ys : List ℕ
  pub all : length ys ≡ count
  pub stand : ResidualsTo p.residuals c.page (last_one xs) ys (drop at bits) (drop end bits)
  pub whole : t ≡ state d r n bs k i ls ns (xs ++ ys)

pub residuals_go : (count : ℕ) (p : Parameters) (c : Context) (bits : List Bool) (d : ℕ) (r n : Option ℕ) (bs : List ℕ) (k : Bool) (i : Option ℕ) (ls ns xs : List ℕ) (at : ℕ) (t : SoFar) (end : ℕ) → Filled p c d r n bs k i ls ns → p.nodes ≤ 2 ^ 62 → next p c t ≡ need.End
    → d - length (copy c r bs) - (sum ns + length xs) ≡ count → LeadsTo p c bits (state d r n bs k i ls ns xs) at t end → Rest p c bits d r n bs k i ls ns xs at count t end
unfolding after refusal
residuals_go zero p c bits d r n bs k i ls ns xs at t end h few ends left on =
    let done : next p c (state d r n bs k i ls ns xs) ≡ need.End = next_residual p c d r n bs k i ls ns xs h false (ap (λ (j : ℕ). ltb 0 j) left) in
    record { ys = []; all = refl; stand = ap (λ (j : ℕ). drop j bits) (end_of p c bits (state d r n bs k i ls ns xs) at t end done on); whole = stop_of p c bits (state d r n bs k i ls ns xs) at t end done on ∙ ap (λ (l : List ℕ). state d r n bs k i ls ns l) (sym (append-nil xs)) }
residuals_go (suc count) p c bits d r n bs k i ls ns xs at t end h few ends left on =
    let due : next p c (state d r n bs k i ls ns xs) ≡ need.Read field.Residual p.residuals = next_residual p c d r n bs k i ls ns xs h true (lt-ltb 0 _ (more_left _ _ left)) in
    let f = step_of p c bits (state d r n bs k i ls ns xs) at field.Residual p.residuals t end due ends on in
    let own = page_of p (own_residual c (state d r n bs k i ls ns xs) f.v) f.fine in
    let y : ℕ = own.0 in
    let same : value_or_0 (own_residual c (state d r n bs k i ls ns xs) f.v) ≡ y = ap value_or_0 own.1 in
    let low : y < p.nodes = ltb-true _ _ own.2 in
    let on_more : LeadsTo p c bits (state d r n bs k i ls ns (xs ++ y ∷ [])) f.mid t end = subst (λ (j : ℕ). LeadsTo p c bits (state d r n bs k i ls ns (xs ++ j ∷ [])) f.mid t end) same f.on in
    let g = residuals_go count p c bits d r n bs k i ls ns (xs ++ y ∷ []) f.mid t end h few ends (one_less _ _ _ _ _ left (length_push xs y)) on_more in
    record {
      ys = y ∷ g.ys;
      all = ap (λ (j : ℕ). suc j) g.all;
      stand = (drop f.mid bits, record { v = f.v; word = f.stands; means = sym (own_is c d r n bs k i ls ns xs f.v) ∙ own.1; low = below_most _ _ _ low few }, subst (λ (o : Option ℕ). ResidualsTo p.residuals c.page o g.ys (drop f.mid bits) (drop end bits)) (last_one_push xs y) g.stand);
      whole = g.whole ∙ ap (λ (l : List ℕ). state d r n bs k i ls ns l) (append_assoc xs (y ∷ []) g.ys);
    }

-- ---- intervals

left_is : (c : Context) (d : ℕ) (r n : Option ℕ) (bs : List ℕ) (k : Bool) (i : Option ℕ) (ls ns xs : List ℕ) (v : ℕ) → own_left c (state d r n bs k i ls ns xs) v ≡ number_of_gap c.page (past_of ls ns) v
left_is c d r n bs k i [] ns xs v = refl
left_is c d r n bs k i (l ∷ ls) ns xs v = rw (ne_eqb (length (l ∷ ls)) 0 (λ e. omega (arith, e))) refl

or_left : (a b : Bool) → (a || b) ≡ false → a ≡ false
or_left true b e = absurd cc
or_left false b e = refl

or_right : (a b : Bool) → (a || b) ≡ false → b ≡ false
or_right true b e = absurd cc
or_right false b e = e

-- these intervals stand from the bit at to the bit mid, and the record goes on from there
pub record Inside (p : Parameters) (c : Context) (bits : List Bool) (d : ℕ) (r n : Option ℕ) (bs : List ℕ) (k : Bool) (i : Option ℕ) (ls ns : List ℕ) (at count : ℕ) (t : SoFar) (end : ℕ) : Type 0 where
  pub mid : ℕ
  pub lefts : List ℕ
  pub lengths : List ℕ
  pub all : length lefts ≡ count
  pub each : length lengths ≡ count
  pub stand : IntervalsTo c.page p.interval (past_of ls ns) lefts lengths (drop at bits) (drop mid bits)
  pub fit : sum (ns ++ lengths) ≤ d - length (copy c r bs)
  pub on : LeadsTo p c bits (state d r n bs k i (ls ++ lefts) (ns ++ lengths) []) mid t end

pub intervals_go : (count : ℕ) (p : Parameters) (c : Context) (bits : List Bool) (d : ℕ) (r n : Option ℕ) (bs : List ℕ) (k : Bool) (i : Option ℕ) (ls ns : List ℕ) (at : ℕ) (t : SoFar) (end : ℕ) → Settled p d r n bs k → NoCount p c d r bs i → p.nodes ≤ 2 ^ 62 → next p c t ≡ need.End → 0 < p.interval
    → length ls ≡ length ns → length ls + count ≡ value_or_0 i → sum ns ≤ d - length (copy c r bs) → LeadsTo p c bits (state d r n bs k i ls ns []) at t end → Inside p c bits d r n bs k i ls ns at count t end
unfolding after refusal
intervals_go zero p c bits d r n bs k i ls ns at t end h no_count few ends some same total fit on = record {
  mid = at;
  lefts = [];
  lengths = [];
  all = refl;
  each = refl;
  stand = refl;
  fit = subst (λ (l : List ℕ). sum l ≤ d - length (copy c r bs)) (sym (append-nil ns)) fit;
  on = subst (λ (l : List ℕ). LeadsTo p c bits (state d r n bs k i (ls ++ []) l []) at t end) (sym (append-nil ns)) (subst (λ (l : List ℕ). LeadsTo p c bits (state d r n bs k i l ns []) at t end) (sym (append-nil ls)) on);
}
intervals_go (suc count) p c bits d r n bs k i ls ns at t end h no_count few ends some same total fit on =
    let left_due : next p c (state d r n bs k i ls ns []) ≡ need.Read field.Left Gamma = next_left p c d r n bs k i ls ns [] h no_count (le-ltb (length ns) (length ls) (no_more _ _ same)) (lt-ltb (length ls) (value_or_0 i) (some_more _ count _ total)) in
    let f = step_of p c bits (state d r n bs k i ls ns []) at field.Left Gamma t end left_due ends on in
    let own = page_of p (own_left c (state d r n bs k i ls ns []) f.v) f.fine in
    let l : ℕ = own.0 in
    let left_same : value_or_0 (own_left c (state d r n bs k i ls ns []) f.v) ≡ l = ap value_or_0 own.1 in
    let on_left : LeadsTo p c bits (state d r n bs k i (ls ++ l ∷ []) ns []) f.mid t end = subst (λ (j : ℕ). LeadsTo p c bits (state d r n bs k i (ls ++ j ∷ []) ns []) f.mid t end) left_same f.on in
    let length_due : next p c (state d r n bs k i (ls ++ l ∷ []) ns []) ≡ need.Read field.Length Gamma = next_length p c d r n bs k i (ls ++ l ∷ []) ns [] h no_count (lt-ltb (length ns) (length (ls ++ l ∷ [])) (one_longer _ _ _ same (length_push ls l))) in
    let g = step_of p c bits (state d r n bs k i (ls ++ l ∷ []) ns []) f.mid field.Length Gamma t end length_due ends on_left in
    let neither = (not_first _ kind.Range None g.fine).0 in
    let room : g.v + p.interval ≤ d - length (copy c r bs) - (sum ns + 0) = ltb-false _ _ (or_left _ _ neither) in
    let within : last_of (ls ++ l ∷ []) + g.v + p.interval ≤ p.nodes = ltb-false _ _ (or_right _ _ neither) in
    let m : ℕ = g.v + p.interval in
    let sum_now : sum (ns ++ m ∷ []) ≡ sum ns + m = sum_push ns m in
    let rests = intervals_go count p c bits d r n bs k i (ls ++ l ∷ []) (ns ++ m ∷ []) g.mid t end h no_count few ends some (both_longer _ _ _ _ same (length_push ls l) (length_push ns m)) (still_total _ _ count _ total (length_push ls l)) (still_fit (sum ns) _ m _ fit room sum_now) g.on in
    let one : IsInterval c.page p.interval (past_of ls ns) l m (drop at bits) (drop g.mid bits) = record {
      v = f.v;
      w = g.v;
      between = drop f.mid bits;
      left_word = f.stands;
      length_word = g.stands;
      left_is = sym (left_is c d r n bs k i ls ns [] f.v) ∙ own.1;
      length_is = refl;
      left_low = left_within _ l g.v p.interval _ _ within few (last_push ls l);
      low = end_within _ l g.v p.interval _ (2 ^ 62) within few (last_push ls l);
    } in
    record {
      mid = rests.mid;
      lefts = l ∷ rests.lefts;
      lengths = m ∷ rests.lengths;
      all = ap (λ (j : ℕ). suc j) rests.all;
      each = ap (λ (j : ℕ). suc j) rests.each;
      stand = (drop g.mid bits, one, subst (λ (o : Option ℕ). IntervalsTo c.page p.interval o rests.lefts rests.lengths (drop g.mid bits) (drop rests.mid bits)) (past_push ls ns l m) rests.stand);
      fit = subst (λ (js : List ℕ). sum js ≤ d - length (copy c r bs)) (append_assoc ns (m ∷ []) rests.lengths) rests.fit;
      on = subst (λ (js : List ℕ). LeadsTo p c bits (state d r n bs k i (ls ++ l ∷ rests.lefts) js []) rests.mid t end) (append_assoc ns (m ∷ []) rests.lengths) (subst (λ (js : List ℕ). LeadsTo p c bits (state d r n bs k i js ((ns ++ m ∷ []) ++ rests.lengths) []) rests.mid t end) (append_assoc ls (l ∷ []) rests.lefts) rests.on);
    }
