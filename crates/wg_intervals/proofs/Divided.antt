-- What the intervals and residuals of a list are together, and apart.
use Rattle.std.proofs.Common.{◌≡◌, ℕ, ◌+◌, ◌-◌, ◌<◌, ◌≤◌, Bool, true, false, not, ◌||◌, eqb, List, [], ◌∷◌, ◌++◌, length, length-append, refl, sym, ap, subst, ◌∙◌, inl, inr, arith}
use Rattle.std.specs.Prelude.{filter, All}
use Rattle.std.specs.List.{flat_map}
use Rattle.std.proofs.lemmas.Bool.{cases_Bool, cases_lt, and_parts, and_from, leb-true, le-leb, lt-ltb, true≢false}
use Rattle.std.proofs.lemmas.List.Elements.{filter_passes}
use Rattle.wg_graph.specs.Numbers.{is_in, is_in_either}
use Rattle.wg_graph.specs.Ascending.{Ascends}
use Rattle.wg_graph.proofs.Sets.{in_below, ascends_more}
use Rattle.wg_intervals.specs.declared.run.Run.{Run}
use Rattle.wg_intervals.specs.Canonical.{runs_of, is_long, numbers_of, intervals_of, residuals_of}
use Rattle.wg_intervals.specs.Laws.{inside}
use Rattle.wg_intervals.proofs.Order.{range_ascends}
use Rattle.wg_intervals.proofs.Maximal.{Cut, cut_of, past_run}

-- the numbers of the runs that pass
abbrev pub of_runs : (Run → Bool) → List Run → List ℕ
of_runs t rs = flat_map numbers_of (filter t rs)

abbrev pub others : (Run → Bool) → Run → Bool
others t r = not (t r)

-- ---- ascending

pub of_runs_ascend : (t : Run → Bool) (rs : List Run) (n : ℕ) (xs : List ℕ) → Cut n rs xs → Ascends n (of_runs t rs)
of_runs_ascend t [] n xs cut = tt
of_runs_ascend t (r ∷ rs) n xs cut =
    let rest : Ascends (r.left + r.length + 1) (of_runs t rs) = of_runs_ascend t rs (r.left + r.length + 1) cut.2 cut.4 in
    elim (cases_Bool (t r)) [
      | inl h ↦ rw h (range_ascends n r.left r.length (of_runs t rs) cut.0 (ascends_more (r.left + r.length) (r.left + r.length + 1) _ (omega arith) rest))
      | inr h ↦ rw h (ascends_more n (r.left + r.length + 1) _ (omega (arith, cut.0)) rest)
    ]

-- ---- together, each once

in_append : (y : ℕ) (xs ys : List ℕ) → is_in y (xs ++ ys) ≡ (is_in y xs || is_in y ys)
in_append y [] ys = refl
in_append y (x ∷ xs) ys = elim (cases_Bool (eqb y x)) [ inl h ↦ rw h refl | inr h ↦ rw h (in_append y xs ys) ]

or_front : (a b c : Bool) → ((a || b) || c) ≡ (a || (b || c))
or_front a b c = grind arith

or_middle : (a b c : Bool) → (b || (a || c)) ≡ (a || (b || c))
or_middle a b c = grind arith

pub together : (t : Run → Bool) (rs : List Run) (n : ℕ) (xs : List ℕ) → Cut n rs xs → (y : ℕ) → (is_in y (of_runs t rs) || is_in y (of_runs (others t) rs)) ≡ is_in y xs
together t [] n xs cut y = ap (is_in y) (sym cut)
together t (r ∷ rs) n xs cut y =
    let zs : List ℕ = cut.2 in
    let rest : (is_in y (of_runs t rs) || is_in y (of_runs (others t) rs)) ≡ is_in y zs = together t rs (r.left + r.length + 1) zs cut.4 y in
    let whole : is_in y xs ≡ (is_in y (numbers_of r) || is_in y zs) = ap (is_in y) cut.3 ∙ in_append y (numbers_of r) zs in
    let joined : (is_in y (numbers_of r) || (is_in y (of_runs t rs) || is_in y (of_runs (others t) rs))) ≡ is_in y xs = ap (λ b. is_in y (numbers_of r) || b) rest ∙ sym whole in
    elim (cases_Bool (t r)) [
      | inl h ↦ rw h (ap (λ b. b || is_in y (of_runs (others t) rs)) (in_append y (numbers_of r) (of_runs t rs))
          ∙ or_front (is_in y (numbers_of r)) (is_in y (of_runs t rs)) (is_in y (of_runs (others t) rs)) ∙ joined)
      | inr h ↦ rw h (ap (λ b. is_in y (of_runs t rs) || b) (in_append y (numbers_of r) (of_runs (others t) rs))
          ∙ or_middle (is_in y (numbers_of r)) (is_in y (of_runs t rs)) (is_in y (of_runs (others t) rs)) ∙ joined)
    ]

pub once : (t : Run → Bool) (rs : List Run) (n : ℕ) (xs : List ℕ) → Cut n rs xs → length (of_runs t rs) + length (of_runs (others t) rs) ≡ length xs
once t [] n xs cut = ap length (sym cut)
once t (r ∷ rs) n xs cut =
    let zs : List ℕ = cut.2 in
    let rest = once t rs (r.left + r.length + 1) zs cut.4 in
    let whole : length xs ≡ length (numbers_of r) + length zs = ap length cut.3 ∙ length-append (numbers_of r) zs in
    elim (cases_Bool (t r)) [
      | inl h ↦ rw h (omega (arith, rest, whole, length-append (numbers_of r) (of_runs t rs)))
      | inr h ↦ rw h (omega (arith, rest, whole, length-append (numbers_of r) (of_runs (others t) rs)))
    ]

module _ (least : ℕ) (xs : List ℕ) where
  pub are_together : Ascends 0 xs → (y : ℕ) → is_in_either (inside least xs) (residuals_of least xs) y ≡ is_in y xs
  are_together up y = together (is_long least) (runs_of xs) 0 xs (cut_of 0 xs up) y

  pub are_once : Ascends 0 xs → length (inside least xs) + length (residuals_of least xs) ≡ length xs
  are_once up = once (is_long least) (runs_of xs) 0 xs (cut_of 0 xs up)

  pub parts_ascend : Ascends 0 xs → Ascends 0 (inside least xs) × Ascends 0 (residuals_of least xs)
  parts_ascend up = (of_runs_ascend (is_long least) (runs_of xs) 0 xs (cut_of 0 xs up), of_runs_ascend (others (is_long least)) (runs_of xs) 0 xs (cut_of 0 xs up))

  pub are_long : All (λ run. least ≤ run.length) (intervals_of least xs)
  are_long k d lt = leb-true _ _ (and_parts _ _ (filter_passes (is_long least) (runs_of xs) k d lt)).1

-- ---- residuals are in no long run

-- the numbers from a on, `least` of them, are in the list
abbrev Window : ℕ → ℕ → List ℕ → Type 0
Window a least xs = (z : ℕ) → a ≤ z → z < a + least → is_in z xs ≡ true

cut_ascends : (rs : List Run) (n : ℕ) (xs : List ℕ) → Cut n rs xs → Ascends n xs
cut_ascends [] n xs cut = subst (Ascends n) (sym cut) tt
cut_ascends (r ∷ rs) n xs cut =
    let rest : Ascends (r.left + r.length + 1) cut.2 = cut_ascends rs (r.left + r.length + 1) cut.2 cut.4 in
    subst (Ascends n) (sym cut.3) (range_ascends n r.left r.length cut.2 cut.0 (ascends_more (r.left + r.length) (r.left + r.length + 1) cut.2 (omega arith) rest))

-- no member stands right after the first run
gap_after : (r : Run) (rs : List Run) (n : ℕ) (xs : List ℕ) → Cut n (r ∷ rs) xs → is_in (r.left + r.length) xs ≡ false
gap_after r rs n xs cut = grind (arith, in_below, past_run, cut_ascends)

before_first : (r : Run) (rs : List Run) (n : ℕ) (xs : List ℕ) → Cut n (r ∷ rs) xs → (y : ℕ) → y < r.left → is_in y xs ≡ false
before_first r rs n xs cut y lt = grind (arith, in_below, ascends_more, range_ascends, cut_ascends)

not_both : (b : Bool) → b ≡ false → b ≡ true → ⊥
not_both b isnt is = true≢false (sym is ∙ isnt)

-- a window that holds a number of the first run lies in that run
window_inside : (r : Run) (rs : List Run) (n : ℕ) (xs : List ℕ) → Cut n (r ∷ rs) xs → (least a y : ℕ) → Window a least xs → r.left ≤ y → y < r.left + r.length → a ≤ y
    → y < a + least → least ≤ r.length
window_inside r rs n xs cut least a y window low high from to =
    elim (cases_lt a r.left) [
      | inl before ↦ absurd (not_both (is_in (r.left - 1) xs) (before_first r rs n xs cut (r.left - 1) (omega arith)) (window (r.left - 1) (omega arith) (omega arith)))
      | inr later ↦ elim (cases_lt (r.left + r.length) (a + least)) [
        | inl past ↦ absurd (not_both (is_in (r.left + r.length) xs) (gap_after r rs n xs cut) (window (r.left + r.length) (omega arith) past))
        | inr within ↦ omega (arith, later, within)
      ]
    ]

pub no_window : (least : ℕ) (rs : List Run) (n : ℕ) (xs : List ℕ) → Cut n rs xs → (y a : ℕ) → 0 < least → is_in y (of_runs (others (is_long least)) rs) ≡ true → a ≤ y
    → y < a + least → Window a least xs → ⊥
no_window least [] n xs cut y a some residual from to window = not_both false refl residual
no_window least (r ∷ rs) n xs cut y a some residual from to window =
    let t : Run → Bool = others (is_long least) in
    let end : ℕ = r.left + r.length in
    let zs : List ℕ = cut.2 in
    let rest : Ascends (end + 1) (of_runs t rs) = of_runs_ascend t rs (end + 1) zs cut.4 in
    let member : is_in y xs ≡ true = window y from to in
    let after : end ≤ y → is_in y (of_runs t rs) ≡ true → ⊥ = λ past left.
    elim (cases_lt end a) [
      | inl later ↦ no_window least rs (end + 1) zs cut.4 y a some left from to (λ z low high. sym (ap (is_in z) cut.3 ∙ past_run r.left r.length z zs (omega (arith, later, low))) ∙ window z low high)
      | inr early ↦ not_both (is_in end xs) (gap_after r rs n xs cut) (window end early (omega (arith, past, to)))
    ]
    in
    elim (cases_lt y r.left) [
      | inl before ↦ not_both (is_in y xs) (before_first r rs n xs cut y before) member
      | inr low ↦ elim (cases_lt y end) [
        | inl high ↦
            let long : is_long least r ≡ true = and_from _ _ (lt-ltb 0 least some) (le-leb least r.length (window_inside r rs n xs cut least a y window low high from to)) in
            let skips : of_runs t (r ∷ rs) ≡ of_runs t rs = rw long refl in
            not_both (is_in y (of_runs t rs)) (in_below (end + 1) y (of_runs t rs) rest (omega (arith, high))) (sym (ap (is_in y) skips) ∙ residual)
        | inr past ↦ elim (cases_Bool (t r)) [
          | inl h ↦ let keeps : of_runs t (r ∷ rs) ≡ numbers_of r ++ of_runs t rs = rw h refl in
              after past (sym (ap (is_in y) keeps ∙ past_run r.left r.length y (of_runs t rs) past) ∙ residual)
          | inr h ↦ let skips : of_runs t (r ∷ rs) ≡ of_runs t rs = rw h refl in after past (sym (ap (is_in y) skips) ∙ residual)
        ]
      ]
    ]

pub residuals_short : (least : ℕ) (xs : List ℕ) (y from : ℕ) → Ascends 0 xs → 0 < least → is_in y (residuals_of least xs) ≡ true → from ≤ y → y < from + least
    → ((z : ℕ) → from ≤ z → z < from + least → is_in z xs ≡ true) → ⊥
residuals_short least xs y from up some residual low high window = no_window least (runs_of xs) 0 xs (cut_of 0 xs up) y from some residual low high window
