-- Weights that a text gives are weights of the pages, and a validation that went on has them from its file.
use Rattle.std.proofs.Common.{◌≡◌, ◌≤◌, ◌<◌, ◌+◌, ℕ, false, nat_eq, nat_lt, ◌&&◌, All, List, [], ◌∷◌, ◌++◌, length, Option, Some, None, Result, Ok, Err, inl, inr, refl, sym, ◌∙◌, ap, subst, arith}
use Rattle.std.proofs.{lemmas.Bool.cases_Bool, lemmas.Bool.leb-false, lemmas.List.length-append}
use Rattle.std.proofs.lemmas.List.Elements.{All-append, All-nil, All-weaker}
use Rattle.wg_num.specs.Lines.{lines_of}
use Rattle.wg_arcs.specs.Numbers.{and_then, numbers_from, numbers_of, numbers_on}
use Rattle.wg_arcs.specs.declared.numbers_fault.NumbersFault.{NumbersFault}
use Rattle.wg_rank.specs.{Intervals.by_page, Sum.sum_below, Weights.AreWeights, Weights.weights_of}
use Rattle.wg_rank.specs.declared.limits.TheConstants.{MOST_WEIGHT}
use Rattle.wg_rank.proofs.Weighing.{ones}
use Rattle.wg_outcomes.specs.Judged.{Judged, status_of, unless_bad_weights, unless_zero, weights_in, weights_then, with_weights}
use Rattle.wg_outcomes.specs.{declared.status.Input.Input, declared.status.Status.TheVariants.Done, Ranked.HoldWeights}
use Rattle.wg_outcomes.specs.declared.status.Input.TheVariants as input
use Rattle.wg_outcomes.specs.declared.status.WeightsFault.{WeightsFault}
use Rattle.wg_outcomes.specs.declared.status.WeightsFault.TheVariants.{Numbers, Zero}
use Rattle.wg_laws.proofs.HeldLemmas.{file_read}

-- ---- numbers that were read are as many as are wanted, each below the limit

abbrev told : List ℕ → Result (List ℕ) NumbersFault
told xs = Ok xs

ok_behind : (r : Result (List ℕ) NumbersFault) (f : List ℕ → Result (List ℕ) NumbersFault) (b : List ℕ) → and_then r f ≡ told b → (a : List ℕ) × (r ≡ told a) × (f a ≡ told b)
ok_behind r f b h = grind arith

same_told : (xs ys : List ℕ) → told xs ≡ told ys → xs ≡ ys
same_told xs ys is = cc

module _ (n limit : ℕ) where
  -- after so many others, these fit
  abbrev Fit : ℕ → List ℕ → Type 0
  Fit before xs = (before + length xs ≤ n) × All (λ v. v < limit) xs

  on_line : (line before : ℕ) (text these : List ℕ) → before ≤ n → numbers_on n limit line before text ≡ told these → Fit before these
  on_line line before text these small is = grind (arith, cases_Bool, leb-false, All-nil, same_told)

  on_lines : (line before : ℕ) (lines : List (List ℕ)) (all : List ℕ) → before ≤ n → numbers_from n limit line before lines ≡ told all → (before + length all ≡ n) × All (λ v. v < limit) all
  on_lines line before [] all small is = grind arith
  on_lines line before (text ∷ lines) all small is =
      let first = ok_behind (numbers_on n limit line before text) _ all is in
      let rest = ok_behind (numbers_from n limit (line + 1) (before + length first.0) lines) (λ others. told (first.0 ++ others)) all first.2 in
      let fit = on_line line before text first.0 small first.1 in
      let others = on_lines (line + 1) (before + length first.0) lines rest.0 fit.0 rest.1 in
      subst (λ (xs : List ℕ). (before + length xs ≡ n) × All (λ v. v < limit) xs) (same_told (first.0 ++ rest.0) all rest.2)
      (let count = length-append first.0 rest.0 in omega (arith, count, others.0), All-append (λ v. v < limit) first.0 rest.0 fit.1 others.1)

  pub numbers_fit : (bytes all : List ℕ) → numbers_of n limit bytes ≡ told all → (length all ≡ n) × All (λ v. v < limit) all
  unfolding numbers_of
  numbers_fit bytes all is = let h = on_lines 1 0 (lines_of bytes) all (omega arith) is in (omega (arith, h.0), h.1)

-- ---- weights that were read are weights

abbrev given_by : List ℕ → Result (List ℕ) WeightsFault
given_by ws = Ok ws

same_given : (xs ys : List ℕ) → given_by xs ≡ given_by ys → xs ≡ ys
same_given xs ys is = cc

abbrev unless : WeightsFault → Result (List ℕ) WeightsFault
unless f = Err f

positive : (n s : ℕ) → (nat_lt 0 n && nat_eq s 0) ≡ false → 0 < n → 0 < s
positive n s h h2 = grind arith

pub weights_read : (n : ℕ) (bytes ws : List ℕ) → weights_in n bytes ≡ given_by ws → AreWeights n ws
weights_read n bytes ws is = by_result (numbers_of n (MOST_WEIGHT + 1) bytes) refl is
  where
    by_sum : (xs : List ℕ) → numbers_of n (MOST_WEIGHT + 1) bytes ≡ told xs → (nat_lt 0 n && nat_eq (sum_below n (by_page xs)) 0) ≡ false → AreWeights n xs
    by_sum xs e some = let h = numbers_fit n (MOST_WEIGHT + 1) bytes xs e in record {
      pages = h.0;
      small = All-weaker (λ v. v < MOST_WEIGHT + 1) (λ v. v ≤ MOST_WEIGHT) (λ v lt. omega (arith, lt)) xs h.1;
      some = positive n (sum_below n (by_page xs)) some;
    }

    by_result : (r : Result (List ℕ) NumbersFault) → numbers_of n (MOST_WEIGHT + 1) bytes ≡ r → unless_zero n r ≡ given_by ws → AreWeights n ws
    by_result (Err f) e none = absurd (let never : unless (Numbers f) ≡ given_by ws = none in cc)
    by_result (Ok xs) e some =
        elim (cases_Bool (nat_lt 0 n && nat_eq (sum_below n (by_page xs)) 0)) [
          | inl zero_sum ↦ absurd (let never : unless Zero ≡ given_by ws = rw zero_sum at some in cc)
          | inr other ↦ subst (AreWeights n) (same_given xs ws (rw other at some)) (by_sum xs e other)
        ]

-- ---- from a job that was done back to the weights

-- the weights behind the files, with which each validation goes on
pub record WeightsBehind (name : Option (List ℕ)) (held : Input → Option (List ℕ)) (n : ℕ) : Type 0 where
  pub given : Option (List ℕ)
  pub stored : HoldWeights name held n given
  pub proper : AreWeights n (weights_of n given)
  pub goes_on : (next : Option (List ℕ) → Judged) → weights_then name n (held input.Weights) next ≡ next given

text_read : (w : Result (List ℕ) WeightsFault) (next : List ℕ → Judged) → status_of (unless_bad_weights w next) ≡ Done → (ws : List ℕ) × (w ≡ given_by ws) × ((m : List ℕ → Judged) → unless_bad_weights w m ≡ m ws)
text_read w next h = grind arith

pub weights_behind : (name : Option (List ℕ)) (held : Input → Option (List ℕ)) (n : ℕ) (last : Option (List ℕ) → Judged) → status_of (weights_then name n (held input.Weights) last) ≡ Done → WeightsBehind name held n
weights_behind None held n last done = record { given = None; stored = refl; proper = ones n; goes_on = λ next. refl }
weights_behind (Some name) held n last done =
    let file = file_read input.Weights (held input.Weights) (λ bytes. with_weights n bytes (λ ws. last (Some ws))) done in
    let found = text_read (weights_in n file.0) (λ ws. last (Some ws)) (ap status_of (sym (file.2 (λ bytes. with_weights n bytes (λ ws. last (Some ws))))) ∙ done) in
    record {
      given = Some found.0;
      stored = (file.0, found.0, file.1, found.1, refl);
      proper = weights_read n file.0 found.0 found.1;
      goes_on = λ next. file.2 (λ bytes. with_weights n bytes (λ ws. next (Some ws))) ∙ found.2 (λ ws. next (Some ws));
    }
