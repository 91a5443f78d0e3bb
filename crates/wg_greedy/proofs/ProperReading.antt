-- What is needed and allowed once the copies are past: the interval count, each interval's left end and length, and
-- each residual.
use Rattle.std.proofs.Common.{◌≡◌, ℕ, suc, ◌+◌, ◌-◌, ◌*◌, ◌<◌, ◌≤◌, ltb, cond, true, false, ◌&&◌, List, [], ◌∷◌, ◌++◌, length, sum, Option, Some, None, is_none, sym, ap, subst, ◌∙◌, arith}
use Rattle.std.proofs.lemmas.Bool.{cond-true, cond-false, lt-ltb, le-ltb, ne_eqb, eq-eqb, or_from}
use Rattle.std.proofs.lemmas.List.{length_push, get_or_push}
use Rattle.wg_params.specs.Parameters.{Parameters}
use Rattle.wg_params.specs.declared.code.Code.{Code}
use Rattle.wg_params.specs.declared.code.Code.TheVariants.{Gamma}
use Rattle.wg_codes.proofs.Folds.{unfolds_from}
use Rattle.wg_grammar.specs.declared.fault.Field.{Field}
use Rattle.wg_grammar.specs.declared.fault.Field.TheVariants as field
use Rattle.wg_grammar.specs.declared.need.Need.{Need}
use Rattle.wg_grammar.specs.declared.need.Need.TheVariants as need
use Rattle.wg_grammar.specs.Context.{Context}
use Rattle.wg_grammar.specs.SoFar.{SoFar, value_or_0, last_of, extra, missing, own_left, own_residual, after}
use Rattle.wg_grammar.specs.Next.{next}
use Rattle.wg_grammar.specs.Refusal.{is_page, refusal}
use Rattle.wg_greedy.specs.Fields.{Written, written, stored_gap}
use Rattle.wg_greedy.proofs.ProperFields.{Admits}
use Rattle.wg_greedy.proofs.ProperStages.{IsPastCopies}

-- s, with this interval count, these left ends, lengths and residuals
abbrev pub with_extras : SoFar → Option ℕ → List ℕ → List ℕ → List ℕ → SoFar
with_extras s n ls ks ys = record s { interval_count = n; lefts = ls; lengths = ks; residuals = ys }

-- the interval count is not needed, or no longer
abbrev pub IsCounted : Parameters → Context → SoFar → Option ℕ → Type 0
IsCounted p c s n = (ltb 0 (extra c s) && ltb 0 p.interval && is_none n) ≡ false

-- ---- what is next

abbrev need_later : Parameters → Context → SoFar → Need
need_later p c t =
    cond (ltb 0 (extra c t) && ltb 0 p.interval && is_none t.interval_count) (need.Read field.IntervalCount Gamma)
    (cond (ltb (length t.lengths) (length t.lefts)) (need.Read field.Length Gamma)
    (cond (ltb (length t.lefts) (value_or_0 t.interval_count)) (need.Read field.Left Gamma)
    (cond (ltb 0 (missing c t)) (need.Read field.Residual p.residuals) need.End)))

next_later : (p : Parameters) (c : Context) (s : SoFar) (n : Option ℕ) (ls ks ys : List ℕ) → IsPastCopies p c s → next p c (with_extras s n ls ks ys) ≡ need_later p c (with_extras s n ls ks ys)
unfolding next
next_later p c s n ls ks ys past = grind arith

next_residual : (p : Parameters) (c : Context) (s : SoFar) (n : Option ℕ) (ls ks ys : List ℕ) → IsPastCopies p c s → IsCounted p c s n → length ks ≡ length ls
    → value_or_0 n ≤ length ls → next p c (with_extras s n ls ks ys) ≡ cond (ltb 0 (missing c (with_extras s n ls ks ys))) (need.Read field.Residual p.residuals) need.End
next_residual p c s n ls ks ys past counted even all = grind (arith, cond-false, le-ltb, next_later)

pub next_end : (p : Parameters) (c : Context) (s : SoFar) (n : Option ℕ) (ls ks ys : List ℕ) → IsPastCopies p c s → IsCounted p c s n → length ks ≡ length ls
    → value_or_0 n ≤ length ls → extra c s ≤ sum ks + length ys → next p c (with_extras s n ls ks ys) ≡ need.End
next_end p c s n ls ks ys past counted even all enough = next_residual p c s n ls ks ys past counted even all ∙ cond-false _ _ _ (le-ltb 0 (extra c s - (sum ks + length ys)) (omega (arith, enough)))

-- ---- one field

one_admitted : (p : Parameters) (c : Context) (s u t : SoFar) (f : Field) (code : Code) (v : ℕ) (fs : List Written) → next p c s ≡ need.Read f code
    → refusal p c s f v ≡ None → after p c s f v ≡ u → Admits p c u fs t → Admits p c s (written f code v ∷ fs) t
one_admitted p c s u t f code v fs is fine e rest = (is, fine, subst (λ (z : SoFar). Admits p c z fs t) (sym e) rest)

module _ (p : Parameters) (c : Context) (s t : SoFar) (n : Option ℕ) (ls ks ys : List ℕ) where
  pub admits_count : (v : ℕ) (fs : List Written) → IsPastCopies p c s → (ltb 0 (extra c s) && ltb 0 p.interval && is_none n) ≡ true → v * p.interval ≤ extra c s
      → Admits p c (with_extras s (Some v) ls ks ys) fs t → Admits p c (with_extras s n ls ks ys) (written field.IntervalCount Gamma v ∷ fs) t
  unfolding after refusal
  admits_count v fs past asked few rest = grind (arith, cond-true, cond-false, le-ltb, with_extras, next_later, one_admitted)

  pub admits_left : (v l : ℕ) (fs : List Written) → IsPastCopies p c s → IsCounted p c s n → length ks ≡ length ls → length ls < value_or_0 n
      → own_left c (with_extras s n ls ks ys) v ≡ Some l → l < p.nodes → Admits p c (with_extras s n (ls ++ l ∷ []) ks ys) fs t
      → Admits p c (with_extras s n ls ks ys) (written field.Left Gamma v ∷ fs) t
  unfolding after refusal
  admits_left v l fs past counted even more own low rest =
      one_admitted p c (with_extras s n ls ks ys) (with_extras s n (ls ++ l ∷ []) ks ys) t field.Left Gamma v fs
      (next_later p c s n ls ks ys past ∙ cond-false _ _ _ counted ∙ cond-false _ _ _ (le-ltb (length ks) (length ls) (omega (arith, even))) ∙ cond-true _ _ _ (lt-ltb (length ls) (value_or_0 n) more))
      (cond-true _ _ _ (ap (is_page p) own ∙ lt-ltb l p.nodes low))
      (ap (λ o. with_extras s n (ls ++ value_or_0 o ∷ []) ks ys) own) rest

  -- the last of the left ends stands without a length
  pub admits_length : (k l : ℕ) (fs : List Written) → IsPastCopies p c s → IsCounted p c s n → length ks < length ls → last_of ls ≡ l → p.interval ≤ k
      → sum ks + length ys + k ≤ extra c s → l + k ≤ p.nodes → Admits p c (with_extras s n ls (ks ++ k ∷ []) ys) fs t
      → Admits p c (with_extras s n ls ks ys) (written field.Length Gamma (k - p.interval) ∷ fs) t
  unfolding after refusal
  admits_length k l fs past counted odd last long room low rest =
      let own : k - p.interval + p.interval ≡ k = omega (arith, long) in
      one_admitted p c (with_extras s n ls ks ys) (with_extras s n ls (ks ++ k ∷ []) ys) t field.Length Gamma (k - p.interval) fs
      (next_later p c s n ls ks ys past ∙ cond-false _ _ _ counted ∙ cond-true _ _ _ (lt-ltb (length ks) (length ls) odd))
      (cond-false _ _ _ (or_from _ _ (le-ltb (extra c s - (sum ks + length ys)) (k - p.interval + p.interval) (omega (arith, own, room)))
      (le-ltb p.nodes (last_of ls + (k - p.interval) + p.interval) (omega (arith, last, long, low)))))
      (ap (λ j. with_extras s n ls (ks ++ j ∷ []) ys) own) rest

  pub admits_residual : (v y : ℕ) (fs : List Written) → IsPastCopies p c s → IsCounted p c s n → length ks ≡ length ls → value_or_0 n ≤ length ls
      → sum ks + length ys < extra c s → own_residual c (with_extras s n ls ks ys) v ≡ Some y → y < p.nodes → Admits p c (with_extras s n ls ks (ys ++ y ∷ [])) fs t
      → Admits p c (with_extras s n ls ks ys) (written field.Residual p.residuals v ∷ fs) t
  unfolding after refusal
  admits_residual v y fs past counted even all room own low rest =
      one_admitted p c (with_extras s n ls ks ys) (with_extras s n ls ks (ys ++ y ∷ [])) t field.Residual p.residuals v fs
      (next_residual p c s n ls ks ys past counted even all ∙ cond-true _ _ _ (lt-ltb 0 (extra c s - (sum ks + length ys)) (omega (arith, room))))
      (cond-true _ _ _ (ap (is_page p) own ∙ lt-ltb y p.nodes low))
      (ap (λ o. with_extras s n ls ks (ys ++ value_or_0 o ∷ [])) own) rest

-- ---- what a stored gap means

pub last_push : (xs : List ℕ) (x : ℕ) → last_of (xs ++ x ∷ []) ≡ x
last_push xs x = get_or_push xs x 0 (length (xs ++ x ∷ []) - 1) (omega (arith, length_push xs x))

-- the least number that may come
abbrev pub least_after : Option ℕ → ℕ
least_after None = 0
least_after (Some before) = suc before

-- the number that the gap of the next left end counts from
abbrev pub IsPastLast : Option ℕ → List ℕ → List ℕ → Type 0
IsPastLast None ls ks = length ls ≡ 0
IsPastLast (Some e) ls ks = (0 < length ls) × (last_of ls + last_of ks ≡ e)

-- the number that the gap of the next residual counts from
abbrev pub IsLast : Option ℕ → List ℕ → Type 0
IsLast None ys = length ys ≡ 0
IsLast (Some e) ys = (0 < length ys) × (last_of ys ≡ e)

pub left_is : (c : Context) (s : SoFar) (n : Option ℕ) (ls ks ys : List ℕ) (past : Option ℕ) (l : ℕ) → IsPastLast past ls ks → least_after past ≤ l
    → own_left c (with_extras s n ls ks ys) (stored_gap c.page past l) ≡ Some l
left_is c s n ls ks ys past l h h2 = grind (arith, cond-true, cond-false, ne_eqb, eq-eqb, unfolds_from)

pub residual_is : (c : Context) (s : SoFar) (n : Option ℕ) (ls ks ys : List ℕ) (last : Option ℕ) (y : ℕ) → IsLast last ys → least_after last ≤ y
    → own_residual c (with_extras s n ls ks ys) (stored_gap c.page last y) ≡ Some y
residual_is c s n ls ks ys last y h h2 = grind (arith, cond-true, cond-false, ne_eqb, eq-eqb, unfolds_from)
